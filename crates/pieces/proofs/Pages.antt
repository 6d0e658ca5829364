-- Laws of writing into a page: pieces one behind the other are one piece; and what is lent at the end.
use mathlib.Core.Path.{◌≡◌, refl, sym, ap, subst, ◌∙◌}
use mathlib.Core.List.{List, [], ◌∷◌, ◌++◌, append-nil, append_assoc}
use Prim.Native.Nat.{ℕ, ◌≤◌}
use lib.ListN.{length}
use Rattle.pieces.specs.Pieces.{put_in, end_in, Put}
use Rattle.pieces.specs.declared.Page.{Page}
use Rattle.pieces.specs.Page.{written}
use Rattle.pieces.proofs.Puts as laws

-- two pieces one behind the other are one piece
pub two : (p : Page) (s t : List ℕ) → written (written p s) t ≡ written p (s ++ t)
unfolding written
two p s t =
    let first : Put p.bytes.now p.at s (put_in p.bytes.now p.at s) (end_in p.bytes.now p.at s) = record { ends = refl; holds = refl } in
    let one = laws.puts {t = t} first (record { ends = refl; holds = refl }) in
    λ i. record p { bytes = record p.bytes { now = one.holds i }; at = one.ends i }

-- what a piece makes of a page, field by field: where the next one begins, what is lent, and that the reference stays
pub ends : (p : Page) (s : List ℕ) → (written p s).at ≡ end_in p.bytes.now p.at s
unfolding written
ends p s = refl

pub leaves : (p : Page) (s : List ℕ) → (written p s).bytes.now ≡ put_in p.bytes.now p.at s
unfolding written
leaves p s = refl

pub stays : (p : Page) (s : List ℕ) → (written p s).bytes.ghost_name ≡ p.bytes.ghost_name
unfolding written
stays p s = refl

-- what is lent stays as long as it was
pub as_long : (p : Page) (s : List ℕ) → length (written p s).bytes.now ≡ length p.bytes.now
unfolding written
as_long p s = laws.as_long {before = p.bytes.now} {piece = s} {at = p.at} (record { ends = refl; holds = refl })

-- a piece ends inside
pub inside : (p : Page) (s : List ℕ) → (written p s).at ≤ length (written p s).bytes.now
unfolding written
inside p s = laws.inside {before = p.bytes.now} {piece = s} {at = p.at} (record { ends = refl; holds = refl })

pub within : (p : Page) (s : List ℕ) {q : Page} {out : List ℕ} → q ≡ written p s → out ≡ q.bytes.now → q.at ≤ length out
within p s a e = rw (e, a) (inside p s)

-- the two fields written
pub fields : {p : Page} {s after : List ℕ} {end : ℕ} → Put p.bytes.now p.at s after end → record p { bytes = record p.bytes { now = after }; at = end } ≡ written p s
unfolding written
fields {p} f = λ i. record p { bytes = record p.bytes { now = f.holds i }; at = f.ends i }

-- and a piece that a page has written into it, in the bytes that it lends
pub as_put : (p : Page) (s : List ℕ) {q : Page} → q ≡ written p s → Put p.bytes.now p.at s q.bytes.now q.at
unfolding written
as_put p s e = record { ends = ap (λ (r : Page). r.at) e; holds = ap (λ (r : Page). r.bytes.now) e }

-- and in what it lent, once that is given back
pub given_back : (p : Page) (s : List ℕ) {q : Page} {out : List ℕ} → q ≡ written p s → out ≡ q.bytes.now → Put p.bytes.now p.at s out q.at
given_back p s a e = let put = as_put p s a in record { ends = put.ends; holds = e ∙ put.holds }

-- two pieces of which the one behind is written first, on a page that begins at its first byte
pub under : (p : Page) (s t : List ℕ) {q r : Page} → p.at ≡ 0 → q ≡ written (record p { at = length s }) t → r ≡ written (record q { at = 0 }) s → record r { at = q.at } ≡ written p (s ++ t)
unfolding written
under p s t {q} {r} z a b =
    let put = laws.under {s = s} (as_put (record p { at = length s }) t a) (as_put (record q { at = 0 }) s b) in
    let same : r.bytes ≡ record p.bytes { now = r.bytes.now } = ap (λ (x : Page). record x.bytes { now = r.bytes.now }) b ∙ ap (λ (x : Page). record x.bytes { now = r.bytes.now }) a in
    ap (λ b. record p { bytes = b; at = q.at }) same ∙ fields {p = p} {s = s ++ t} {after = r.bytes.now} {end = q.at} (subst (λ (at : ℕ). Put p.bytes.now at (s ++ t) r.bytes.now q.at) (sym z) put)

-- no piece at all leaves a page as it is, if its place is inside
pub nothing : (p : Page) → p.at ≤ length p.bytes.now → written p [] ≡ p
nothing p h = sym (fields {p = p} {s = []} {after = p.bytes.now} {end = p.at} (laws.none h))

-- what a goal that pieces are one piece is found by
pub ruleset pages = (two, append_assoc, append-nil, ends, leaves, stays)
