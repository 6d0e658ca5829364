-- T and the arrival at x where the functions are not refused: those of the functions as they are worked whatever z is (`worked_time_lem`,
-- `worked_arrival_lem`). A T that is finite is one of these (`finite_works`), so that no refusal hides in it.
use mathlib.Core.Path.{◌≡◌, refl, sym, ap, ◌∙◌}
use mathlib.Core.Logic.{inl, inr}
use mathlib.Core.Bool.{true, true≢false}
use lib.Ieee.{Float, nan}
use Rattle.exact.specs.Numbers.{◌⊕◌, ◌⊗◌, is_finite}
use Rattle.exact.proofs.NotANumber.{plus_nan}
use Rattle.rows.specs.Rows.{Checked, onward}
use Rattle.universal.specs.declared.Functions.{Functions}
use Rattle.universal.specs.Functions.{worked_at, time_of}
use Rattle.universal.proofs.Worked.{Works, works_or_nans}
use Rattle.conic.specs.declared.State.{State}
use Rattle.conic.specs.declared.Scaled.{Scaled}
use Rattle.conic.specs.TimeAndRatio.{time_at, ratio_at}
use Rattle.conic.specs.Unfolding.{arrival_of, arrival_at}

abbrev pub worked_time : Scaled → (x : Float) → Float
worked_time o x = time_of o.s (worked_at x o.alpha)

abbrev pub worked_arrival : Scaled → (x : Float) → Checked State
worked_arrival o x = let u = worked_at x o.alpha in arrival_of o u.u1 u.u2 (ratio_at o x)

module _ (o : Scaled) (x : Float) where
  pub worked_time_lem : Works x o.alpha → time_at o x ≡ worked_time o x
  unfolding time_at
  worked_time_lem w = rw w refl

  pub worked_arrival_lem : Works x o.alpha → arrival_at o x ≡ worked_arrival o x
  unfolding onward arrival_at
  worked_arrival_lem w = rw w refl

  pub finite_works : is_finite (time_at o x) ≡ true → Works x o.alpha
  unfolding time_at
  finite_works f = elim (works_or_nans x o.alpha) [
    | inl w ↦ w
    | inr e ↦ absurd (true≢false (sym f ∙ ap (λ (u : Functions). is_finite (time_of o.s u)) e ∙ ap is_finite (plus_nan (nan ⊕ o.s ⊗ nan))))
  ]
