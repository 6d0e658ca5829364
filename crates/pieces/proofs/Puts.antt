-- Laws of writing into a buffer: pieces one behind the other are one piece, whether or not they fit, and whichever is written first; and what
-- stands at the front at the end.
use mathlib.Core.Path.{◌≡◌, refl, sym, ap, ◌∙◌, subst}
use mathlib.Core.Bool.{Bool, true, false, cond}
use mathlib.Core.List.{List, [], ◌∷◌, ◌++◌, append-nil, append_assoc}
use Prim.Native.Nat.{ℕ, zero, suc, ◌+◌, ◌-◌, ◌≤◌, ◌<◌, min}
use native.Mathlib.Nat.{suc-add, add-suc, add-zero, zero-add, min-eq_left}
use native.Mathlib.Omega.{arith}
use borrow.Author.Tests.{leb-true, leb-false, le-leb}
use lib.Dec.{leb}
use lib.ListN.{length, take, drop, set, length-append, length-set}
use lib.Seq.{sets, length-sets, sets-eq, set_out, set_comm, drop-drop, length-take-le, take-length, take-append_seam}
use borrow.Rule.Slice.PartMut.{put_mid}
use Rattle.pieces.specs.Pieces.{joined, put_in, end_in, Put, handed_in}

sets_append : (l : List ℕ) (at : ℕ) (s t : List ℕ) → sets l at (s ++ t) ≡ sets (sets l at s) (at + length s) t
sets_append l at [] t = ap (λ (k : ℕ). sets l k t) (sym (add-zero at))
sets_append l at (b ∷ s) t =
    sets_append (set l at b) (suc at) s t
    ∙ ap (λ (k : ℕ). sets (sets (set l at b) (suc at) s) k t) (suc-add at (length s) ∙ sym (add-suc at (length s)))

-- what goes past the end is cut off
pub sets_beyond : (l : List ℕ) (at : ℕ) (s : List ℕ) → length l ≤ at → sets l at s ≡ l
sets_beyond l at [] h = refl
sets_beyond l at (b ∷ s) h =
    let same : set l at b ≡ l = set_out l at b h in
    ap (λ (k : List ℕ). sets k (suc at) s) same ∙ sets_beyond l (suc at) s (omega arith)

-- where a piece ends behind another
then_ends : (a b L : ℕ) → min (min a L + b) L ≡ min (a + b) L
then_ends a b L = omega arith

-- a place past the end is as good as the end
clamped : (l : List ℕ) (at : ℕ) (s : List ℕ) → sets l (min at (length l)) s ≡ sets l at s
clamped l at s = go (leb at (length l)) refl
  where
    go : (b : Bool) → leb at (length l) ≡ b → sets l (min at (length l)) s ≡ sets l at s
    go true e = ap (λ (k : ℕ). sets l k s) (min-eq_left (leb-true at (length l) e))
    go false e =
        let past : length l ≤ at = omega (arith, leb-false at (length l) e) in
        sets_beyond l (min at (length l)) s (omega arith) ∙ sym (sets_beyond l at s past)

-- a buffer stays as long as it was
pub as_long : {before after piece : List ℕ} {at end : ℕ} → Put before at piece after end → length after ≡ length before
unfolding put_in
as_long {before} {piece = piece} {at = at} p = ap length p.holds ∙ length-sets before at piece

-- two pieces one behind the other are one piece
pub puts : {before middle after s t : List ℕ} {at next end : ℕ} → Put before at s middle next → Put middle next t after end → Put before at (s ++ t) after end
unfolding put_in end_in
puts {before} {middle} {after} {s} {t} {at} {next} {end} p q =
    let stop : end ≡ min (min (at + length s) (length before) + length t) (length before) = q.ends ∙ rw (as_long p, p.ends) in
    let pieces : length (s ++ t) ≡ length s + length t = length-append s t in
    let whole : at + length s + length t ≡ at + length (s ++ t) = omega (arith, pieces) in
    let clamp : next ≡ min (at + length s) (length (sets before at s)) = p.ends ∙ ap (min (at + length s)) (sym (length-sets before at s)) in
    record {
      ends = stop ∙ then_ends (at + length s) (length t) (length before) ∙ ap (λ (k : ℕ). min k (length before)) whole;
      holds =
          q.holds
          ∙ ap (λ (l : List ℕ). sets l next t) p.holds
          ∙ ap (λ (k : ℕ). sets (sets before at s) k t) clamp
          ∙ clamped (sets before at s) (at + length s) t
          ∙ sym (sets_append before at s t);
    }

-- a set before a run, and a run before a run, may as well come first
set_first : (l : List ℕ) (i a at : ℕ) (t : List ℕ) → i < at → set (sets l at t) i a ≡ sets (set l i a) at t
set_first l i a at [] h = refl
set_first l i a at (b ∷ t) h = set_first (set l at b) i a (suc at) t (omega arith) ∙ ap (λ (k : List ℕ). sets k (suc at) t) (set_comm l at i b a (λ e. omega (arith, e)))

sets_first : (l : List ℕ) (i : ℕ) (s : List ℕ) (at : ℕ) (t : List ℕ) → i + length s ≤ at → sets (sets l at t) i s ≡ sets (sets l i s) at t
sets_first l i [] at t h = refl
sets_first l i (a ∷ s) at t h = ap (λ (k : List ℕ). sets k (suc i) s) (set_first l i a at t (omega arith)) ∙ sets_first (set l i a) (suc i) s at t (omega arith)

-- two pieces of which the one behind is written first
pub under : {before middle after s t : List ℕ} {end stop : ℕ} → Put before (length s) t middle end → Put middle 0 s after stop → Put before 0 (s ++ t) after end
unfolding put_in end_in
under {before} {s = s} {t = t} p q =
    let whole : length s + length t ≡ 0 + length (s ++ t) = omega (arith, length-append s t) in
    record {
      ends = p.ends ∙ ap (λ (k : ℕ). min k (length before)) whole;
      holds =
          q.holds
          ∙ ap (λ (l : List ℕ). sets l 0 s) p.holds
          ∙ sets_first before 0 s (length s) t (omega arith)
          ∙ ap (λ (k : ℕ). sets (sets before 0 s) k t) (sym (zero-add (length s)))
          ∙ sym (sets_append before 0 s t);
    }

-- a piece for which there is room, written at once
pub at_once : (l : List ℕ) (at : ℕ) (s : List ℕ) → at + length s ≤ length l → Put l at s (sets l at s) (at + length s)
unfolding put_in end_in
at_once l at s h = record { ends = sym (min-eq_left h); holds = refl }

-- a piece known by another name
pub renamed : {before after piece other : List ℕ} {at end : ℕ} → piece ≡ other → Put before at piece after end → Put before at other after end
renamed {before} {after} {at = at} {end = end} e p = subst (λ (l : List ℕ). Put before at l after end) e p

-- the last of several pieces
pub last : {before after piece : List ℕ} {at end : ℕ} → Put before at piece after end → Put before at (joined (piece ∷ [])) after end
last {piece = piece} p = renamed (sym (append-nil piece)) p

-- no piece at all, at a place inside
pub none : {l : List ℕ} {at : ℕ} → at ≤ length l → Put l at [] l at
unfolding put_in end_in
none {l} {at} h = record { ends = sym (min-eq_left h) ∙ ap (λ (k : ℕ). min k (length l)) (sym (add-zero at)); holds = refl }

-- a piece ends inside
pub inside : {before after piece : List ℕ} {at end : ℕ} → Put before at piece after end → end ≤ length after
unfolding put_in end_in
inside p = rw (as_long p, p.ends) (omega arith)

-- a whole text for which there is room stands in front, once it is handed over
in_room : (whole buffer : List ℕ) → length whole ≤ length buffer → handed_in whole buffer ≡ whole ++ drop (length whole) buffer
in_room whole buffer h = ap (λ (b : Bool). cond b (whole ++ drop (length whole) buffer) buffer) (le-leb (length whole) (length buffer) h)

-- and is written so from the first byte on
in_front : (whole buffer : List ℕ) → length whole ≤ length buffer → sets buffer 0 whole ≡ whole ++ drop (length whole) buffer
in_front whole buffer h =
    let at_front : 0 + length whole ≤ length buffer = omega arith in
    sets-eq whole buffer 0 at_front ∙ ap (λ (k : ℕ). whole ++ drop k buffer) (zero-add (length whole))

pub written_is_handed : (whole buffer : List ℕ) → length whole ≤ length buffer → sets buffer 0 whole ≡ handed_in whole buffer
written_is_handed whole buffer h = in_front whole buffer h ∙ sym (in_room whole buffer h)

-- and is found there again, at the front
pub record InFront (whole after : List ℕ) (end : ℕ) : Type 0 where
  pub within : end ≤ length after
  pub long : end ≡ length (take end after)
  pub is : take end after ≡ whole

pub found : (whole buffer : List ℕ) {after : List ℕ} {end : ℕ} → length whole ≤ length buffer → end ≡ length whole → after ≡ handed_in whole buffer → InFront whole after end
found whole buffer {after} {end} h e held =
    let rest = drop (length whole) buffer in
    let stands : after ≡ whole ++ rest = held ∙ in_room whole buffer h in
    let there : end ≤ length after = rw (e, stands, length-append whole rest) (omega arith) in
    record { within = there; long = sym (length-take-le end after there); is = rw (e, stands) (take-append_seam whole rest) }

-- a text written from the first byte on, into a page that has room for it: the page's front is the text
pub front : {before after whole : List ℕ} {end : ℕ} → Put before 0 whole after end → length whole ≤ length before → (end ≡ length whole) × (take end after ≡ whole)
unfolding put_in end_in
front {before} {after} {whole} {end} p h =
    let all : end ≡ length whole = p.ends ∙ ap (λ (k : ℕ). min k (length before)) (zero-add (length whole)) ∙ min-eq_left h in
    (all, rw (all, p.holds, sets-eq whole before 0 (omega arith)) (take-append_seam whole (drop (0 + length whole) before)))

pub stands : {before after whole : List ℕ} {end : ℕ} → Put before 0 whole after end → length whole ≤ length before → after ≡ whole ++ drop (length whole) before
unfolding put_in
stands {before} {whole = whole} p h = p.holds ∙ in_front whole before h

pub handed : {before after whole : List ℕ} {end : ℕ} → Put before 0 whole after end → length whole ≤ length before → (end ≡ length whole) × (after ≡ handed_in whole before)
unfolding put_in
handed {before} {after} {whole} {end} p h = ((front p h).0, p.holds ∙ written_is_handed whole before h)

-- a page whose front is a text, handed on: the text is
pub handed_on : (buffer : List ℕ) {before after whole held : List ℕ} {end n : ℕ} → Put before 0 whole after end → length whole ≤ length before
    → (n ≡ length (take end after)) × (held ≡ handed_in (take end after) buffer) → (n ≡ length whole) × (held ≡ handed_in whole buffer)
handed_on buffer p h q = let whole_is = (front p h).1 in (q.0 ∙ ap length whole_is, q.1 ∙ ap (λ (l : List ℕ). handed_in l buffer) whole_is)

-- what goes past the end may as well not be written
cut : (l : List ℕ) (at : ℕ) (s : List ℕ) (n : ℕ) → min (length s) (length l - at) ≤ n → sets l at (take n s) ≡ sets l at s
cut l at [] zero h = refl
cut l at (b ∷ s) zero h = sym (sets_beyond l at (b ∷ s) (omega arith))
cut l at [] (suc n) h = refl
cut l at (b ∷ s) (suc n) h = cut (set l at b) (suc at) s n (omega (arith, length-set l at b))

-- as many bytes written over as many in a buffer
pub over : (l : List ℕ) (at n : ℕ) (s : List ℕ) → at + n ≤ length l → n ≡ length s → put_mid at (at + n - at) l s ≡ sets l at s
over l at n s h e =
    let end : at + (at + n - at) ≡ at + length s = omega arith in
    ap (λ (rest : List ℕ). take at l ++ (s ++ rest)) (drop-drop (at + n - at) at l ∙ ap (λ (k : ℕ). drop k l) end)
    ∙ sym (append_assoc (take at l) s (drop (at + length s) l))
    ∙ sym (sets-eq s l at (omega arith))

-- as much of a piece as there is room for, written over as many bytes from its place on, or from the end on, is all that is written of it
pub as_far : (l : List ℕ) (at : ℕ) (s : List ℕ) {start n : ℕ} {piece : List ℕ} → start ≡ min at (length l) → n ≡ min (length s) (length l - start) → piece ≡ take n s → Put l at s (put_mid start (start + n - start) l piece) (start + n)
unfolding put_in end_in
as_far l at s {start} {n} {piece} b m e =
    let long : n ≡ length piece = sym (ap length e ∙ length-take-le n s (omega arith)) in
    record {
      ends = omega arith;
      holds = over l start n piece (omega arith) long ∙ ap (sets l start) e ∙ cut l start s n (omega arith) ∙ ap (λ (k : ℕ). sets l k s) b ∙ clamped l at s;
    }

-- all of a piece, where there is room for it
pub all_of : (l : List ℕ) (at : ℕ) (s : List ℕ) {start : ℕ} {piece : List ℕ} → start ≡ min at (length l) → length s ≤ length l - start → piece ≡ s → Put l at s (put_mid start (start + length s - start) l piece) (start + length s)
all_of l at s {start} b h e = as_far l at s b (omega arith) (e ∙ sym (take-length s))

-- a writer's two equations are one piece written, and a piece written is two equations
pub wrote : {before after piece : List ℕ} {at end : ℕ} → (end ≡ end_in before at piece) × (after ≡ put_in before at piece) → Put before at piece after end
wrote p = record { ends = p.0; holds = p.1 }

pub both : {before after piece : List ℕ} {at end : ℕ} → Put before at piece after end → (end ≡ end_in before at piece) × (after ≡ put_in before at piece)
both p = (p.ends, p.holds)
