-- `root::digits::rounded` meets its contract: it is the definition's own sum, and has room in a word.
use mathlib.Core.Path.{refl}
use Rattle.root.proofs.digits.rounded.Goals as goal

pub returns : goal.returns
returns c = refl
