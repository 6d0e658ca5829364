-- The velocity at z: what one that passes its test is, both ways; that it and the time at z fit binary64; and the number with which it can refuse.
use mathlib.Core.Path.{◌≡◌, refl, subst}
use mathlib.Core.Logic.{◌↔◌}
use mathlib.Core.Bool.{true}
use Prim.Native.Nat.{ℕ}
use lib.Dec.{T}
use lib.Ieee.{Float, binary64, fits}
use lib.Ieee.Fits.{add-fits}
use Rattle.exact.specs.Numbers.{◌⊗◌, ◌⊘◌}
use Rattle.rows.specs.Rows.{pass, must}
use Rattle.rows.proofs.Laws.{pass_once, test_passed, Refuses, passes, must_refuses}
use Rattle.vectors.specs.declared.Vector.{Vector}
use Rattle.vectors.specs.Vectors.{all_finite}
use Rattle.vectors.proofs.Fitting.{VectorFits, over_fits}
use Rattle.arc.specs.declared.Scaled.{Scaled}
use Rattle.arc.specs.Arc.{shape_at, time_at, departure_in, velocity_at}

-- the velocity that z comes to
abbrev pub departure_at : Scaled → (z : Float) → Vector
departure_at o z = departure_in o (shape_at o.rho o.a z)

pub record Departs (o : Scaled) (z : Float) (v : Vector) : Type 0 where
  pub finite : all_finite v ≡ true
  pub velocity_is : departure_at o z ≡ v

pub departs_at : (o : Scaled) (z : Float) (v : Vector) → (velocity_at o z ≡ pass v) ↔ Departs o z v
unfolding must velocity_at
departs_at o z v = (there, λ a. rw (a.velocity_is, a.finite) refl)
  where
    there : velocity_at o z ≡ pass v → Departs o z v
    there h =
        let first = test_passed (all_finite (departure_at o z)) 6 (pass (departure_at o z)) h in
        let is : departure_at o z ≡ v = pass_once first.1 in
        record { finite = subst (λ (a : Vector). all_finite a ≡ true) is first.0; velocity_is = is }

pub velocity_refuses : {P : ℕ → Type 0} → P 6 → (o : Scaled) (z : Float) → Refuses P (velocity_at o z)
unfolding velocity_at
velocity_refuses six o z = must_refuses _ 6 _ six passes

pub time_fits : (o : Scaled) (z : Float) → T (fits binary64 (time_at o z))
unfolding time_at
time_fits o z =
    let h = shape_at o.rho o.a z in
    let x = h.g ⊘ h.k in
    add-fits binary64 (x ⊗ x ⊗ x ⊗ h.s) (o.a ⊗ h.g)

pub departure_fits : (o : Scaled) (z : Float) → VectorFits (departure_at o z)
unfolding departure_in
departure_fits o z = over_fits _ o.f1
