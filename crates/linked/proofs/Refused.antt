-- What an outcome that is refused comes to for a caller in C, whether it names the bracket's ends or not: its number, and the lent number as it was.
use mathlib.Core.Path.{◌≡◌, refl}
use Prim.Native.Nat.{ℕ}
use lib.Ieee.{Float}
use Rattle.std.specs.Prelude.{Option, Some, None, Err}
use Rattle.search.specs.declared.Refusal.{Refusal}
use Rattle.search.specs.Answers.{Answer, answered}
use Rattle.linked.specs.Linked.{outcome_number, sum_after}

pub record Left {A : Type 0} (a : Answer A) (k : ℕ) : Type 0 where
  pub number : outcome_number a ≡ k
  pub lent : (sum : Float → A → Float) (x : Float) → sum_after sum a x ≡ x

pub left : {A W : Type 0} (number : W → ℕ) (r : Refusal W) → Left (answered {A = A} number (Err r)) (number r.why)
left {A} number r = of r.ends
  where
    of : (ends : Option (Float × Float)) → Left (answered {A = A} number (Err (record { why = r.why; count = r.count; ends = ends }))) (number r.why)
    of None = record { number = refl; lent = λ sum x. refl }
    of (Some ends) = record { number = refl; lent = λ sum x. refl }
