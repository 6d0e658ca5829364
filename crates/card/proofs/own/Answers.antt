-- `card::own` meets its contract: each kind is one case of the definition.
use mathlib.Core.Path.{refl}
use Rattle.card.specs.Fields.{answer_size, own_size}
use Rattle.card.proofs.own.Goals as goal

pub returns-in-Solved : goal.returns-in-Solved
unfolding answer_size own_size
returns-in-Solved c = rw c.in-Solved.is refl

pub returns-in-Refused : goal.returns-in-Refused
unfolding answer_size own_size
returns-in-Refused c = rw c.in-Refused.is refl

pub returns-in-Transfer : goal.returns-in-Transfer
unfolding answer_size own_size
returns-in-Transfer c = rw c.in-Transfer.is refl
