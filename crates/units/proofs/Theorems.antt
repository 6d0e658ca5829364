-- What an answer says can be undone, so `given_said` and `measured_said` are one to one, and the contracts through them have one answer.
use mathlib.Core.Path.{◌≡◌, refl}
use Prim.Native.Nat.{ℕ}
use lib.Ieee.{Float}
use Rattle.std.specs.Prelude.{Result, Ok, Err}
use Rattle.coincidence.specs.Coincidence.{OneToOne}
use Rattle.coincidence.proofs.Laws.{undone}
use Rattle.rows.proofs.Laws.{checked_once}
use Rattle.units.specs.declared.NotFinite.{NotFinite}
use Rattle.units.specs.declared.Unmeasured.{Unmeasured}
use Rattle.units.specs.declared.Unmeasured.TheVariants.{Unusable, RootRefused}
use Rattle.units.specs.Units.{Measured, measured, unusable, root_refused}
use Rattle.units.specs.Said.{place_of, given_said, measured_said}

abbrev not_finite_at : ℕ → NotFinite
not_finite_at place = record { place = place }

pub given_once : OneToOne given_said
given_once = checked_once place_of not_finite_at (λ why. refl)

abbrev unmeasured : {A : Type 0} → Measured A → Result A Unmeasured
unmeasured (measured x) = Ok x
unmeasured unusable = Err Unusable
unmeasured root_refused = Err RootRefused

measured_is : {A : Type 0} (a : Result A Unmeasured) → unmeasured (measured_said a) ≡ a
measured_is (Ok x) = refl
measured_is (Err Unusable) = refl
measured_is (Err RootRefused) = refl

measured_once : {A : Type 0} → OneToOne (measured_said {A = A})
measured_once = undone measured_said unmeasured measured_is

pub length_once : OneToOne (measured_said {A = Float})
length_once = measured_once

pub unit_once : OneToOne (measured_said {A = Float × Float})
unit_once = measured_once
