-- `card::problem` meets its contract: each field is read as the definition says.
use mathlib.Core.Path.{refl}
use Rattle.card.specs.Fields.{problem_of}
use Rattle.card.proofs.problem.Goals as goal

pub returns : goal.returns
unfolding problem_of
returns c = rw (c.number.ensures, c.vector.ensures, c.vector-2.ensures, c.number-2.ensures, c.half.ensures) refl
