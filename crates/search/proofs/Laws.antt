-- The laws on where a search ends, each an instance of the one induction (`Hunt`). Solved is near (`solved_near`). What the starting ends
-- and every guess of a finite time have, the ends of a named bracket have (`named_ends`), as that their times are finite (`named_finite`). The
-- bracket law: from a starting bracket whose
-- ends' times have the wanted time between them, a solved search ends in that bracket (`solved_in`), and a named bracket lies in it, in
-- order, with the wanted time still between (`named_kept`); and another time, which is the same in it, has the same search (`same_search`).
-- The invariant: the bracket is so, and the guess lies in it.
use mathlib.Core.Path.{◌≡◌, refl}
use mathlib.Core.Logic.{◌↔◌}
use mathlib.Core.Bool.{Bool, true, false, cond}
use Prim.Native.Nat.{ℕ}
use lib.Dec.{T}
use lib.Ieee.{Float, binary64, neg, fits, lt, le}
use lib.Ieee.Bits.{is_true}
use Rattle.exact.specs.Numbers.{nought, is_finite, Number, is_near, is_minus}
use Rattle.exact.proofs.Basics.{both}
use Rattle.exact.proofs.Compare.{lt_once, le_of_lt, le_refl, le_trans, finite_between}
use Rattle.exact.proofs.Zero.{nought_number}
use Rattle.exact.proofs.Arithmetic.{neg_number}
use Rattle.exact.proofs.Middle.{middle_forwards, middle_backwards}
use Rattle.search.specs.declared.Point.{Point}
use Rattle.search.specs.declared.Bracket.{Bracket}
use Rattle.search.specs.Said.{solved}
use Rattle.search.specs.Search.{within, middle_of, first_guess, search_of}
use Rattle.search.proofs.Hunt.{point_at, middle_fits, Passed, Names, search_same, solved_has, named_has}

-- ---- the ends of a named bracket

module _ (time : Float → Float) (t : Float) (Q : Point → Type 0) (guesses : (x : Float) → is_finite (time x) ≡ true → Q (point_at time x)) where
  ends_pass : Passed time t (λ b x. Q b.lo × Q b.hi) (λ b. Q b.lo × Q b.hi)
  ends_pass = record { lower = λ b x q f e. (guesses x f, q.1); upper = λ b x q f e. (q.0, guesses x f); next = λ b x q w i. q }

  pub named_ends : (limit : ℕ) (b₀ : Bracket) → Q b₀.lo → Q b₀.hi → (b : Bracket) → Names (search_of time t limit b₀) b → Q b.lo × Q b.hi
  named_ends limit b₀ l h b w = named_has ends_pass limit b₀ (l, h) b w

module _ (time : Float → Float) (t : Float) (limit : ℕ) (b₀ : Bracket) where
  abbrev Finite : Bracket → Type 0
  Finite b = (is_finite (time b.lo.x) ≡ true) × (is_finite (time b.hi.x) ≡ true)

  pub named_finite : Finite b₀ → (b : Bracket) → Names (search_of time t limit b₀) b → Finite b
  named_finite f b w = named_ends time t (λ e. is_finite (time e.x) ≡ true) (λ x g. g) limit b₀ f.0 f.1 b w

-- ---- solved is near

pub solved_near : (time : Float → Float) (t : Float) (limit : ℕ) (b : Bracket) {x : Float} {n : ℕ} → search_of time t limit b ≡ solved x n
    → (is_finite (time x) ≡ true) × (is_near (time x) t ≡ true)
solved_near time t limit b e = let h = solved_has (ends_pass time t (λ p. Unit) (λ x f. tt)) limit b (tt, tt) e in (h.0, h.1)

-- ---- in a bracket

-- a number in the bracket
abbrev pub In : Bracket → Float → Type 0
In b x = Number binary64 x × (within b x ≡ true)

is_within : (b : Bracket) (x : Float) → (within b x ≡ true) ↔ (T (le b.lo.x x) × T (le x b.hi.x))
is_within b x = both (le b.lo.x x) (le x b.hi.x)

-- between finite ends all is finite
pub within_finite : (b : Bracket) (x : Float) → Number binary64 b.lo.x → Number binary64 b.hi.x → within b x ≡ true → T (is_finite x)
within_finite b x l h w = let p = (is_within b x).0 w in finite_between b.lo.x x b.hi.x l.1 h.1 p.0 p.1

in_between : (b : Bracket) (x : Float) → Number binary64 b.lo.x → Number binary64 b.hi.x → T (fits binary64 x) → T (le b.lo.x x) × T (le x b.hi.x) → In b x
in_between b x l h w p = let i = (is_within b x).1 p in ((w, within_finite b x l h i), i)

-- what lies in a bracket whose ends lie in another lies in the other
in_outer : (b₀ b : Bracket) (x : Float) → Number binary64 b₀.lo.x → Number binary64 b₀.hi.x → In b₀ b.lo.x → In b₀ b.hi.x → In b x → In b₀ x
in_outer b₀ b x L H l h i =
    let p = (is_within b x).0 i.1 in (
      i.0,
      (is_within b₀ x).1 (
        le_trans binary64 b₀.lo.x b.lo.x x L l.0 i.0 ((is_within b₀ b.lo.x).0 l.1).0 p.0,
        le_trans binary64 x b.hi.x b₀.hi.x i.0 h.0 H p.1 ((is_within b₀ b.hi.x).0 h.1).1,
      ),
    )

-- ---- the bracket law

-- a bracket to start from: its ends are numbers, and the first guess lies in it
pub record Starts (t : Float) (b : Bracket) : Type 0 where
  pub lo_number : Number binary64 b.lo.x
  pub hi_number : Number binary64 b.hi.x
  pub first_in : In b (first_guess b t)

-- a bracket in b₀, in order, with the wanted time not outside its ends' times
pub record Kept (time : Float → Float) (t : Float) (b₀ b : Bracket) : Type 0 where
  pub lo_in : In b₀ b.lo.x
  pub hi_in : In b₀ b.hi.x
  pub in_order : le b.lo.x b.hi.x ≡ true
  pub lo_time : lt t (time b.lo.x) ≡ false
  pub hi_time : lt (time b.hi.x) t ≡ false

module _ (time : Float → Float) (t : Float) (b₀ : Bracket) (s : Starts t b₀) where
  abbrev Held : Bracket → Float → Type 0
  Held b x = Kept time t b₀ b × In b x

  in_start : (b : Bracket) (x : Float) → Held b x → In b₀ x
  in_start b x k = in_outer b₀ b x s.lo_number s.hi_number k.0.lo_in k.0.hi_in k.1

  passes : Passed time t Held (Kept time t b₀)
  passes = record {
    lower = λ b x k f e. record { lo_in = in_start b x k; hi_in = k.0.hi_in; in_order = is_true (le x b.hi.x) ((is_within b x).0 k.1.1).1; lo_time = lt_once (time x) t e; hi_time = k.0.hi_time };
    upper = λ b x k f e. record { lo_in = k.0.lo_in; hi_in = in_start b x k; in_order = is_true (le b.lo.x x) ((is_within b x).0 k.1.1).0; lo_time = k.0.lo_time; hi_time = e };
    next = λ b x k w i.
        let p = (both (lt b.lo.x x) (lt x b.hi.x)).0 i in
        (k, in_between b x k.lo_in.0 k.hi_in.0 w (le_of_lt b.lo.x x p.0, le_of_lt x b.hi.x p.1));
  }

  -- the ends lie in it, since the first guess stands between them
  start_kept : lt t (time b₀.lo.x) ≡ false → lt (time b₀.hi.x) t ≡ false → Kept time t b₀ b₀
  start_kept l h =
      let L = s.lo_number in
      let H = s.hi_number in
      let p = (is_within b₀ (first_guess b₀ t)).0 s.first_in.1 in
      let o = le_trans binary64 b₀.lo.x (first_guess b₀ t) b₀.hi.x L s.first_in.0 H p.0 p.1 in
      record {
        lo_in = (L, (is_within b₀ b₀.lo.x).1 (le_refl binary64 b₀.lo.x L, o));
        hi_in = (H, (is_within b₀ b₀.hi.x).1 (o, le_refl binary64 b₀.hi.x H));
        in_order = is_true (le b₀.lo.x b₀.hi.x) o;
        lo_time = l;
        hi_time = h;
      }

module _ (time : Float → Float) (t : Float) (limit : ℕ) (b₀ : Bracket) (s : Starts t b₀) (lo : lt t (time b₀.lo.x) ≡ false) (hi : lt (time b₀.hi.x) t ≡ false) where
  pub solved_in : {x : Float} {n : ℕ} → search_of time t limit b₀ ≡ solved x n → In b₀ x
  solved_in {x} e = let h = (solved_has (passes time t b₀ s) limit b₀ (start_kept time t b₀ s lo hi, s.first_in) e).2 in in_start time t b₀ s h.0 x h.1

  pub named_kept : (b : Bracket) → Names (search_of time t limit b₀) b → Kept time t b₀ b
  named_kept b w = named_has (passes time t b₀ s) limit b₀ (start_kept time t b₀ s lo hi, s.first_in) b w

  pub same_search : (other : Float → Float) → ((x : Float) → In b₀ x → time x ≡ other x) → search_of time t limit b₀ ≡ search_of other t limit b₀
  same_search other same = search_same (passes time t b₀ s) other (λ b x k. same x (in_start time t b₀ s b x k)) limit b₀ (start_kept time t b₀ s lo hi, s.first_in)

-- ---- the two starting brackets

-- the first guess lies in a bracket in which the middle does
starts : (t : Float) (b : Bracket) → T (fits binary64 t) → Number binary64 b.lo.x → Number binary64 b.hi.x → T (le b.lo.x (middle_of b)) × T (le (middle_of b) b.hi.x) → Starts t b
unfolding first_guess
starts t b w l h m = record { lo_number = l; hi_number = h; first_in = go (within b t) refl }
  where
    go : (u : Bool) → within b t ≡ u → In b (cond u t (middle_of b))
    go true e = in_between b t l h w ((is_within b t).0 e)
    go false e = in_between b (middle_of b) l h (middle_fits b) m

-- from 0 to X
pub forwards : (t : Float) (b : Bracket) → T (fits binary64 t) → Number binary64 b.hi.x → is_minus b.hi.x ≡ false → b.lo.x ≡ nought → Starts t b
forwards t b w h plus e = starts t b w (rw e nought_number) h (rw e (middle_forwards b.hi.x h plus))

-- from -X to 0
pub backwards : (t : Float) (b : Bracket) (X : Float) → T (fits binary64 t) → Number binary64 X → is_minus X ≡ false → b.lo.x ≡ neg X → b.hi.x ≡ nought → Starts t b
backwards t b X w h plus e z = starts t b w (rw e (neg_number binary64 X h).0) (rw z nought_number) (rw (e, z) (middle_backwards X h plus))
