-- `version::Version::number` meets its contract: each version is one case of the definition.
use mathlib.Core.Path.{refl}
use Rattle.version.specs.Version.{version_number}
use Rattle.version.proofs.Version.number.Goals as goal

pub returns-in-One : goal.returns-in-One
unfolding version_number
returns-in-One c = rw c.in-One.is refl

pub returns-in-Two : goal.returns-in-Two
unfolding version_number
returns-in-Two c = rw c.in-Two.is refl
