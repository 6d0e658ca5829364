-- What the answers say. Definitions only.
use Rattle.std.specs.Prelude.{ℕ, Result, Ok, Err}
use Rattle.rows.specs.Rows.{Checked, checked}
use Rattle.units.specs.declared.NotFinite.{NotFinite}
use Rattle.units.specs.declared.Unmeasured.{Unmeasured}
use Rattle.units.specs.declared.Unmeasured.TheVariants.{Unusable, RootRefused}
use Rattle.units.specs.Units.{Measured, measured, unusable, root_refused}

-- a number that is not finite, by its place
abbrev pub place_of : NotFinite → ℕ
place_of why = why.place

abbrev pub given_said : Result (Unit {0}) NotFinite → Checked (Unit {0})
given_said a = checked place_of a

abbrev pub measured_said : {A : Type 0} → Result A Unmeasured → Measured A
measured_said (Ok x) = measured x
measured_said (Err Unusable) = unusable
measured_said (Err RootRefused) = root_refused
