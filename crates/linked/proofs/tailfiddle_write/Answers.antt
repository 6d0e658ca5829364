-- `linked::tailfiddle_write` meets its contract: each case of the writer's answer is one case of the definitions, and the buffer is the callee's.
use mathlib.Core.Path.{ap, ◌∙◌}
use Rattle.rows.specs.Rows.{refusal_in}
use Rattle.linked.specs.Linked.{size_after}
use Rattle.linked.proofs.tailfiddle_write.Goals as goal

pub returns-in-Ok : goal.returns-in-Ok
returns-in-Ok c = let is = c.in-Ok.ensures.result_value in
    record { value = ap refusal_in is; buffer_after = c.write.ensures.buffer_after; size_after = ap (λ m. size_after m c.args.size.now) is }

pub returns-in-Err : goal.returns-in-Err
returns-in-Err c = let is = c.in-Err.ensures.result_value in
    record { value = c.number.ensures ∙ ap refusal_in is; buffer_after = c.write.ensures.buffer_after; size_after = ap (λ m. size_after m c.args.size.now) is }
