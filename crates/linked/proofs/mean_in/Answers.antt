-- `linked::mean_in` meets its contract: each answer is one case of the definition.
use mathlib.Core.Path.{refl}
use lib.Ieee.{div, of_bits}
use Rattle.linked.proofs.mean_in.Goals as goal

pub returns-in-Err : goal.returns-in-Err
returns-in-Err c = rw (c.minus.ensures, c.number.ensures, c.in-Err.is) refl

-- 0/0 is NaN
pub returns-in-None : goal.returns-in-None
unfolding div of_bits
returns-in-None c = rw (c.in-Ok.is, c.in-None.is) refl
