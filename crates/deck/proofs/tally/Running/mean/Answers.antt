-- `tally::Running::mean` meets its contract: the sum over the number of solved cards.
use mathlib.Core.Path.{refl}
use Rattle.deck.proofs.tally.Running.mean.Goals as goal

pub returns : goal.returns
returns c = refl
