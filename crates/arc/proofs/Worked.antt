-- T and the velocity at z where the functions are not refused: those of the functions as they are worked whatever z is.
use mathlib.Core.Path.{◌≡◌, refl}
use lib.Ieee.{Float}
use Rattle.exact.specs.Numbers.{one}
use Rattle.rows.specs.Rows.{Checked}
use Rattle.vectors.specs.declared.Vector.{Vector}
use Rattle.universal.specs.Functions.{worked_at}
use Rattle.universal.proofs.Worked.{Works}
use Rattle.arc.specs.declared.Scaled.{Scaled}
use Rattle.arc.specs.declared.Shape.{Shape}
use Rattle.arc.specs.Arc.{shape_by, time_in, time_at, velocity_in, velocity_at}

abbrev pub worked_shape : Scaled → (z : Float) → Shape
worked_shape o z = shape_by o.rho o.a z (worked_at one z)

abbrev pub worked_time : Scaled → (z : Float) → Float
worked_time o z = time_in o.a (worked_shape o z)

abbrev pub worked_velocity : Scaled → (z : Float) → Checked Vector
worked_velocity o z = velocity_in o (worked_shape o z)

module _ (o : Scaled) (z : Float) (w : Works one z) where
  pub worked_time_lem : time_at o z ≡ worked_time o z
  unfolding time_at
  worked_time_lem = rw w refl

  pub worked_velocity_lem : velocity_at o z ≡ worked_velocity o z
  unfolding velocity_at
  worked_velocity_lem = rw w refl
