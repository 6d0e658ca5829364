-- `exact::near` meets its contract: the definition's steps, with what `absolute` ensures put in.
use mathlib.Core.Path.{ap}
use lib.Ieee.{Float, le}
use Rattle.exact.specs.Numbers.{tolerance, is_near}
use Rattle.exact.proofs.near.Goals as goal

pub returns : goal.returns
unfolding is_near
returns c = ap (λ (z : Float). le z tolerance) c.absolute.ensures
