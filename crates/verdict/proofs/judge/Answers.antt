-- `verdict::judge` meets its contract: each kind is one case of the definition, accepted or rejected.
use mathlib.Core.Path.{refl}
use Rattle.verdict.specs.Verdict.{verdict_on}
use Rattle.verdict.proofs.judge.Goals as goal

pub returns-in-Ok : goal.returns-in-Ok
unfolding verdict_on
returns-in-Ok c = rw (c.in-Solved.is, ← c.solved.ensures, c.in-Ok.is) refl

pub returns-in-Err : goal.returns-in-Err
unfolding verdict_on
returns-in-Err c = rw (c.in-Solved.is, ← c.solved.ensures, c.in-Err.is) refl

pub returns-in-Ok-refused : goal.returns-in-Ok-refused
unfolding verdict_on
returns-in-Ok-refused c = rw (c.in-Refused.is, ← c.refused.ensures, c.in-Ok-refused.is) refl

pub returns-in-Err-refused : goal.returns-in-Err-refused
unfolding verdict_on
returns-in-Err-refused c = rw (c.in-Refused.is, ← c.refused.ensures, c.in-Err-refused.is) refl

pub returns-in-Transfer : goal.returns-in-Transfer
unfolding verdict_on
returns-in-Transfer c = rw c.in-Transfer.is c.judge.ensures
