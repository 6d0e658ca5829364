-- `card::vector` meets its contract: what `number` ensures, three times.
use mathlib.Core.Path.{refl}
use Rattle.card.proofs.vector.Goals as goal

pub returns : goal.returns
returns c = rw (c.number.ensures, c.number-2.ensures, c.number-3.ensures) refl
