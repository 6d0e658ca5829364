-- `contents::kind_at` meets its contract: the kind of the number that stands in the entry.
use mathlib.Core.Path.{refl, ◌∙◌}
use Rattle.contents.proofs.kind_at.Goals as goal

pub returns : goal.returns
returns c = c.kind_of.ensures ∙ rw c.half.ensures refl
