-- `apart::rest_from` meets its contract: each kind is one case of the definition.
use mathlib.Core.Path.{refl}
use Rattle.card.specs.Made.{rest_from}
use Rattle.apart.proofs.rest_from.Goals as goal

pub returns-in-Solved : goal.returns-in-Solved
unfolding rest_from
returns-in-Solved c = rw c.in-Solved.is refl

pub returns-in-Refused : goal.returns-in-Refused
unfolding rest_from
returns-in-Refused c = rw c.in-Refused.is refl

pub returns-in-Transfer : goal.returns-in-Transfer
unfolding rest_from
returns-in-Transfer c = rw c.in-Transfer.is refl
