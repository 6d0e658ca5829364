-- An Option with the reason that stands for None, as a row: one refusal alone, that reason's number.
use mathlib.Core.Path.{◌≡◌, refl}
use Prim.Native.Nat.{ℕ}
use Rattle.std.specs.Prelude.{Option, Some, None}
use Rattle.std.specs.Option.{ok_or}
use Rattle.rows.specs.Rows.{checked, stated}

pub or_refused : {A E : Type 0} (number : E → ℕ) (why : E) (o : Option A) → stated (number why) o ≡ checked number (ok_or o why)
or_refused number why (Some x) = refl
or_refused number why None = refl
