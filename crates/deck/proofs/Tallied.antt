-- Laws of the tally. The three totals add up to the number of verdicts, and each is the first verdict's and that of the others. A card that is
-- not accepted as solved changes neither mean nor worst, wherever it stands: it leaves number, sum and largest as they are, and the cards after
-- it see no more than these. Both are absent exactly where no card is solved.
use mathlib.Core.Path.{◌≡◌, refl}
use mathlib.Core.Logic.{◌↔◌}
use mathlib.Core.Bool.{Bool, true, false, true≢false}
use mathlib.Core.List.{List, [], ◌∷◌, ◌++◌}
use Prim.Native.Nat.{ℕ, ◌+◌}
use native.Mathlib.Omega.{arith}
use borrow.Author.Tests.{eqb-true, eqb-false}
use lib.Dec.{eqb}
use lib.ListN.{length}
use lib.IntN.{pos}
use lib.Ieee.{Float, binary64, of_int}
use Rattle.exact.specs.Numbers.{◌⊘◌}
use Rattle.ruling.specs.Said.{Said, solved, refused, rejected}
use Rattle.deck.specs.declared.tally.Running.{Running}
use Rattle.deck.specs.Tally.{nothing, counted, counted_all, absent, known, residuals_of}

-- ---- the totals

-- how many verdicts a tally has counted
abbrev pub total_of : Running → ℕ
total_of n = n.solved + n.refused + n.rejected

pub one_counted : (n : Running) (v : Said) → total_of (counted n v) ≡ total_of n + 1
one_counted n (solved residual) = omega arith
one_counted n refused = omega arith
one_counted n (rejected k) = omega arith

all_counted : (n : Running) (verdicts : List Said) → total_of (counted_all n verdicts) ≡ total_of n + length verdicts
unfolding counted_all
all_counted n [] = omega arith
all_counted n (v ∷ verdicts) = omega (arith, all_counted (counted n v) verdicts, one_counted n v)

pub totals_add_up : (verdicts : List Said) → total_of (counted_all nothing verdicts) ≡ length verdicts
totals_add_up verdicts = omega (arith, all_counted nothing verdicts)

-- the totals of n are those of l and those of r
pub record Together (n l r : Running) : Type 0 where
  pub solved_are : n.solved ≡ l.solved + r.solved
  pub refused_are : n.refused ≡ l.refused + r.refused
  pub rejected_are : n.rejected ≡ l.rejected + r.rejected

one_together : (n : Running) (v : Said) → Together (counted n v) n (counted nothing v)
one_together n (solved residual) = omega arith
one_together n refused = omega arith
one_together n (rejected k) = omega arith

-- what was counted before, and what the verdicts come to by themselves
all_together : (n : Running) (verdicts : List Said) → Together (counted_all n verdicts) n (counted_all nothing verdicts)
unfolding counted_all
all_together n [] = omega arith
all_together n (v ∷ verdicts) = omega (arith, all_together (counted n v) verdicts, all_together (counted nothing v) verdicts, one_together n v)

-- the first verdict, and the others
pub first_and_others : (v : Said) (verdicts : List Said) → Together (counted_all nothing (v ∷ verdicts)) (counted nothing v) (counted_all nothing verdicts)
unfolding counted_all
first_and_others v verdicts = all_together (counted nothing v) verdicts

-- ---- mean and worst are of the solved cards alone

-- what mean and worst are made of
pub record Alike (n m : Running) : Type 0 where
  pub number : n.solved ≡ m.solved
  pub sum : n.sum ≡ m.sum
  pub worst : n.worst ≡ m.worst

pub same_residuals : (n m : Running) → Alike n m → residuals_of n ≡ residuals_of m
unfolding residuals_of
same_residuals n m a = rw (a.number, a.sum, a.worst) refl

alike_on : (n m : Running) (v : Said) → Alike n m → Alike (counted n v) (counted m v)
alike_on n m (solved residual) a = record { number = rw a.number refl; sum = rw a.sum refl; worst = rw a.worst refl }
alike_on n m refused a = record { number = a.number; sum = a.sum; worst = a.worst }
alike_on n m (rejected k) a = record { number = a.number; sum = a.sum; worst = a.worst }

alike_all : (n m : Running) (verdicts : List Said) → Alike n m → Alike (counted_all n verdicts) (counted_all m verdicts)
unfolding counted_all
alike_all n m [] a = a
alike_all n m (v ∷ verdicts) a = alike_all (counted n v) (counted m v) verdicts (alike_on n m v a)

-- not accepted as solved
abbrev pub Unsolved : Said → Type 0
Unsolved (solved residual) = ⊥
Unsolved refused = Unit
Unsolved (rejected k) = Unit

adds_nothing : (n : Running) (v : Said) → Unsolved v → Alike (counted n v) n
adds_nothing n (solved residual) u = absurd u
adds_nothing n refused u = record { number = refl; sum = refl; worst = refl }
adds_nothing n (rejected k) u = record { number = refl; sum = refl; worst = refl }

left_out : (n : Running) (before : List Said) (v : Said) (after : List Said) → Unsolved v → Alike (counted_all n (before ++ v ∷ after)) (counted_all n (before ++ after))
unfolding counted_all
left_out n [] v after u = alike_all (counted n v) n after (adds_nothing n v u)
left_out n (w ∷ before) v after u = left_out (counted n w) before v after u

pub unsolved_changes_neither : (before : List Said) (v : Said) (after : List Said) → Unsolved v → residuals_of (counted_all nothing (before ++ v ∷ after)) ≡ residuals_of (counted_all nothing (before ++ after))
unsolved_changes_neither before v after u = same_residuals (counted_all nothing (before ++ v ∷ after)) (counted_all nothing (before ++ after)) (left_out nothing before v after u)

-- ---- absent, never zero

-- absent where no card is solved, and else known
data Given (n : Running) : Type 0 where
  neither : n.solved ≡ 0 → residuals_of n ≡ absent → Given n
  both : (n.solved ≡ 0 → ⊥) → residuals_of n ≡ known (n.sum ⊘ of_int binary64 (pos n.solved)) n.worst → Given n

given : (n : Running) → Given n
unfolding residuals_of
given n = go (eqb n.solved 0) refl
  where
    go : (test : Bool) → eqb n.solved 0 ≡ test → Given n
    go true e = neither (eqb-true n.solved 0 e) (rw e refl)
    go false e = both (eqb-false n.solved 0 e) (rw e refl)

pub absent_exactly : (n : Running) → (residuals_of n ≡ absent) ↔ (n.solved ≡ 0)
absent_exactly n = go (given n)
  where
    go : Given n → (residuals_of n ≡ absent) ↔ (n.solved ≡ 0)
    go (neither z a) = ((λ h. z), λ h. a)
    go (both nz k) = ((λ h. absurd (true≢false cc)), λ z. absurd (nz z))

-- where they are known: a card is solved, and what they are
pub known_is : (n : Running) (mean worst : Float) → residuals_of n ≡ known mean worst → (n.solved ≡ 0 → ⊥) × (n.sum ⊘ of_int binary64 (pos n.solved) ≡ mean) × (n.worst ≡ worst)
known_is n mean worst h = go (given n)
  where
    go : Given n → (n.solved ≡ 0 → ⊥) × (n.sum ⊘ of_int binary64 (pos n.solved) ≡ mean) × (n.worst ≡ worst)
    go (neither z a) = absurd (true≢false cc)
    go (both nz k) = (nz, cc, cc)
