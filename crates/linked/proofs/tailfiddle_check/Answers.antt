-- `linked::tailfiddle_check` meets its contract: both functions that it calls are equations, and the list is the callee's.
use mathlib.Core.Path.{ap, ◌∙◌}
use Rattle.linked.specs.Linked.{mean_in}
use Rattle.linked.proofs.tailfiddle_check.Goals as goal

pub returns : goal.returns
returns c = record { value = c.mean_in.ensures ∙ ap mean_in c.check.ensures.result_value; verdicts_after = c.check.ensures.verdicts_after }
