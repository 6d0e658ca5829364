-- `tally::Running::with` meets its contract: each verdict is one case of the definition.
use mathlib.Core.Path.{refl}
use Rattle.deck.proofs.tally.Running.with.Goals as goal

pub returns-in-Solved : goal.returns-in-Solved
returns-in-Solved c = rw (c.larger_of.ensures, c.in-Solved.is) refl

pub returns-in-Refused : goal.returns-in-Refused
returns-in-Refused c = rw c.in-Refused.is refl

pub returns-in-Rejected : goal.returns-in-Rejected
returns-in-Rejected c = rw c.in-Rejected.is refl
