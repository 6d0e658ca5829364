-- `card::number` meets its contract: the number of the word.
use mathlib.Core.Path.{refl, ◌∙◌}
use Rattle.card.proofs.number.Goals as goal

pub returns : goal.returns
returns c = c.number.ensures ∙ rw c.word.ensures refl
