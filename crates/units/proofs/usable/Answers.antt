-- `units::usable` meets its contract: what `finite` ensures, put in.
use mathlib.Core.Path.{refl}
use Rattle.units.proofs.usable.Goals as goal

pub returns : goal.returns
returns c = rw c.finite.ensures refl
