-- `tally::larger_of` meets its contract: each branch is one case of the definition.
use mathlib.Core.Path.{refl}
use Rattle.deck.proofs.tally.larger_of.Goals as goal

pub returns-then-a-b : goal.returns-then-a-b
returns-then-a-b c = rw c.if-a-b.true refl

pub returns-else-a-b : goal.returns-else-a-b
returns-else-a-b c = rw c.if-a-b.false refl
