-- `card::Kind::number` meets its contract: each kind is one case of the definition.
use mathlib.Core.Path.{refl}
use Rattle.card.specs.Fields.{kind_number}
use Rattle.card.proofs.Kind.number.Goals as goal

pub returns-in-Solved : goal.returns-in-Solved
unfolding kind_number
returns-in-Solved c = rw c.in-Solved.is refl

pub returns-in-Refused : goal.returns-in-Refused
unfolding kind_number
returns-in-Refused c = rw c.in-Refused.is refl

pub returns-in-Transfer : goal.returns-in-Transfer
unfolding kind_number
returns-in-Transfer c = rw c.in-Transfer.is refl
