-- `version::Version::tag` meets its contract: each version is one case of the definition.
use mathlib.Core.Path.{refl}
use Rattle.version.specs.Version.{tag_size}
use Rattle.version.proofs.Version.tag.Goals as goal

pub returns-in-One : goal.returns-in-One
unfolding tag_size
returns-in-One c = rw c.in-One.is refl

pub returns-in-Two : goal.returns-in-Two
unfolding tag_size
returns-in-Two c = rw c.in-Two.is refl
