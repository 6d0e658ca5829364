-- The worst is the largest: it is one of the residuals, and none is larger. Residuals have no sign, so that their order is that of their
-- steps; the 0 that the tally begins with is no larger than any, and where it stays, a residual is that 0. And none is above 2^988 s.
use mathlib.Core.Path.{◌≡◌, refl, sym, ◌∙◌, subst}
use mathlib.Core.Logic.{◌⊎◌, inl, inr}
use mathlib.Core.Bool.{Bool, true, false, cond}
use mathlib.Core.List.{List, [], ◌∷◌}
use Prim.Native.Nat.{ℕ, ◌≤◌}
use native.Mathlib.Nat.{le_trans, le_of_eq, le_of_lt}
use native.Mathlib.Omega.{arith}
use lib.Dec.{T}
use lib.Ieee.{Float, binary64, lt, le}
use Rattle.exact.specs.Numbers.{nought, steps}
use Rattle.exact.proofs.Basics.{passed, failed}
use Rattle.exact.proofs.Steps.{same_number}
use Rattle.exact.proofs.Order.{plus_le, plus_lt, le_of_not_lt}
use Rattle.exact.proofs.Signs.{Plus}
use Rattle.exact.proofs.Most.{AtMost}
use Rattle.exact.proofs.Zero.{nought_number, nought_steps, nought_plus}
use Rattle.rows.specs.Rows.{pass}
use Rattle.version.specs.declared.Version.{Version}
use Rattle.card.specs.Fields.{Card, parts_of}
use Rattle.ruling.specs.Said.{Said, solved, refused, rejected}
use Rattle.verdict.specs.Verdict.{verdict_of}
use Rattle.compared.specs.Compared.{most_residual}
use Rattle.verdict.proofs.Accepted.{residual_most}
use Rattle.deck.specs.declared.tally.Running.{Running}
use Rattle.deck.specs.Tally.{nothing, larger, counted, counted_all, known, residuals_of}
use Rattle.deck.specs.Check.{verdicts_of, judged_of}
use Rattle.deck.proofs.Tallied.{known_is}
use Rattle.deck.proofs.Accepted.{accepted_means}

-- r is the residual of a solved card
abbrev pub Among : Float → List Said → Type 0
Among r [] = ⊥
Among r (solved residual ∷ verdicts) = (r ≡ residual) ⊎ Among r verdicts
Among r (refused ∷ verdicts) = Among r verdicts
Among r (rejected k ∷ verdicts) = Among r verdicts

-- ---- the larger of two

record Larger (a b w : Float) : Type 0 where
  plus : Plus w
  over_one : steps binary64 a ≤ steps binary64 w
  over_other : steps binary64 b ≤ steps binary64 w
  origin : (w ≡ a) ⊎ (w ≡ b)

larger_by : (a b : Float) → Plus a → Plus b → (t : Bool) → lt a b ≡ t → Larger a b (cond t b a)
larger_by a b p q true e = record { plus = q; over_one = le_of_lt ((plus_lt binary64 a b p.0 q.0 p.1 q.1).0 (passed e)); over_other = le_of_eq refl; origin = inr refl }
larger_by a b p q false e = record { plus = p; over_one = le_of_eq refl; over_other = (plus_le binary64 b a q.0 p.0 q.1 p.1).0 (le_of_not_lt binary64 a b p.0 q.0 (failed e)); origin = inl refl }

-- ---- the largest of all

-- w has grown from a, over all residuals, to one of them, or is a itself
record Grown (a : Float) (verdicts : List Said) (w : Float) : Type 0 where
  plus : Plus w
  from : steps binary64 a ≤ steps binary64 w
  over : (r : Float) → Among r verdicts → steps binary64 r ≤ steps binary64 w
  origin : (w ≡ a) ⊎ Among w verdicts

one_more : (a x b : Float) (verdicts : List Said) (w : Float) → Larger a x b → Grown b verdicts w → Grown a (solved x ∷ verdicts) w
one_more a x b verdicts w l g = record { plus = g.plus; from = le_trans l.over_one g.from; over = each; origin = by_origin g.origin l.origin }
  where
    each : (r : Float) → Among r (solved x ∷ verdicts) → steps binary64 r ≤ steps binary64 w
    each r (inl e) = subst (λ (y : Float). steps binary64 y ≤ steps binary64 w) (sym e) (le_trans l.over_other g.from)
    each r (inr m) = g.over r m

    by_origin : (w ≡ b) ⊎ Among w verdicts → (b ≡ a) ⊎ (b ≡ x) → (w ≡ a) ⊎ Among w (solved x ∷ verdicts)
    by_origin (inl e) (inl f) = inl (e ∙ f)
    by_origin (inl e) (inr f) = inr (inl (e ∙ f))
    by_origin (inr m) o = inr (inr m)

grown : (n : Running) (verdicts : List Said) → Plus n.worst → ((r : Float) → Among r verdicts → Plus r) → Grown n.worst verdicts (counted_all n verdicts).worst
unfolding counted_all
grown n [] p all = record { plus = p; from = le_of_eq refl; over = λ r m. absurd m; origin = inl refl }
grown n (solved x ∷ verdicts) p all =
    let l = larger_by n.worst x p (all x (inl refl)) (lt n.worst x) refl in
    one_more n.worst x (larger n.worst x) verdicts (counted_all (counted n (solved x)) verdicts).worst l (grown (counted n (solved x)) verdicts l.plus (λ r m. all r (inr m)))
grown n (refused ∷ verdicts) p all = let g = grown (counted n refused) verdicts p all in record { plus = g.plus; from = g.from; over = g.over; origin = g.origin }
grown n (rejected k ∷ verdicts) p all = let g = grown (counted n (rejected k)) verdicts p all in record { plus = g.plus; from = g.from; over = g.over; origin = g.origin }

pub record IsLargest (verdicts : List Said) (w : Float) : Type 0 where
  pub one_of_them : Among w verdicts
  pub over_all : (r : Float) → Among r verdicts → T (le r w)

-- where a card is solved
pub worst_is_largest : (verdicts : List Said) → ((r : Float) → Among r verdicts → Plus r) → (some : Float) → Among some verdicts → IsLargest verdicts (counted_all nothing verdicts).worst
worst_is_largest verdicts all some m =
    let w = (counted_all nothing verdicts).worst in
    let g = grown nothing verdicts (nought_number, nought_plus) all in
    record { one_of_them = found g g.origin; over_all = λ r among. (plus_le binary64 r w (all r among).0 g.plus.0 (all r among).1 g.plus.1).1 (g.over r among) }
  where
    found : Grown nought verdicts (counted_all nothing verdicts).worst → ((counted_all nothing verdicts).worst ≡ nought) ⊎ Among (counted_all nothing verdicts).worst verdicts → Among (counted_all nothing verdicts).worst verdicts
    found g (inr among) = among
    found g (inl e) =
        let none : steps binary64 some ≤ 0 = rw (e, nought_steps) at (g.over some m) in
        let same : steps binary64 some ≡ steps binary64 nought = rw nought_steps (omega arith) in
        let is : some ≡ nought = same_number binary64 some nought (all some m).0 nought_number ((all some m).1 ∙ sym nought_plus) same in
        subst (λ (y : Float). Among y verdicts) (is ∙ sym e) m

-- ---- in a deck

-- the residuals of cards have no minus and are at most 2^988 s
pub card_residuals_most : (version : Version) (cards : List Card) (r : Float) → Among r (verdicts_of version cards) → AtMost most_residual r
card_residuals_most version [] r m = elim m [ ]
card_residuals_most version (c ∷ cards) r m = go (verdict_of version c) refl (card_residuals_most version cards r) m
  where
    go : (v : Said) → verdict_of version c ≡ v → (Among r (verdicts_of version cards) → AtMost most_residual r) → Among r (v ∷ verdicts_of version cards) → AtMost most_residual r
    go (solved x) e others (inl same) = subst (AtMost most_residual) (sym same) (residual_most c.kind (parts_of version c.kind c.body) x e)
    go (solved x) e others (inr m) = others m
    go refused e others m = others m
    go (rejected k) e others m = others m

-- where a card counts as solved, there is a residual
some_solved : (n : Running) (verdicts : List Said) → ((counted_all n verdicts).solved ≡ n.solved) ⊎ ((r : Float) × Among r verdicts)
unfolding counted_all
some_solved n [] = inl refl
some_solved n (solved x ∷ verdicts) = inr (x, inl refl)
some_solved n (refused ∷ verdicts) = some_solved (counted n refused) verdicts
some_solved n (rejected k ∷ verdicts) = some_solved (counted n (rejected k)) verdicts

pub worst_of_cards : (version : Version) (cards : List Card) (mean worst : Float) → residuals_of (counted_all nothing (verdicts_of version cards)) ≡ known mean worst → IsLargest (verdicts_of version cards) worst
worst_of_cards version cards mean worst k =
    let w = known_is (counted_all nothing verdicts) mean worst k in
    subst (IsLargest verdicts) w.2 (go w.0 (some_solved nothing verdicts))
  where
    verdicts : List Said
    verdicts = verdicts_of version cards

    go : ((counted_all nothing verdicts).solved ≡ 0 → ⊥) → ((counted_all nothing verdicts).solved ≡ 0) ⊎ ((r : Float) × Among r verdicts) → IsLargest verdicts (counted_all nothing verdicts).worst
    go not (inl none) = absurd (not none)
    go not (inr some) = worst_is_largest verdicts (λ r m. (card_residuals_most version cards r m).plus) some.0 some.1

pub worst_of_a_deck : (deck : List ℕ) (room : ℕ) (verdicts : List Said) (mean worst : Float) → judged_of deck room ≡ pass verdicts → residuals_of (counted_all nothing verdicts) ≡ known mean worst → IsLargest verdicts worst
worst_of_a_deck deck room verdicts mean worst h k =
    let a = accepted_means deck room verdicts h in
    let is = a.verdicts_are in
    subst (λ (v : List Said). IsLargest v worst) (sym is) (worst_of_cards a.is.version a.is.cards mean worst (subst (λ (v : List Said). residuals_of (counted_all nothing v) ≡ known mean worst) is k))
