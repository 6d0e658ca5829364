-- `linked::tailfiddle_transfer` meets its contract: what was found is what the definition says, solved or refused, as is a way that is none.
use mathlib.Core.Path.{refl, sym, ap, ◌∙◌}
use Rattle.arc.specs.Said as arc
use Rattle.lambert.specs.Lambert.{answer_to}
use Rattle.linked.specs.Linked.{outcome_number, velocity_sum, sum_after}
use Rattle.linked.proofs.Refused.{left}
use Rattle.linked.proofs.tailfiddle_transfer.Goals as goal

pub returns-in_default : goal.returns-in_default
returns-in_default c = let e = sym c.in_default.ensures in record { value = c.number.ensures ∙ rw e refl; sum_after = rw e refl }

pub returns-in-Ok : goal.returns-in-Ok
returns-in-Ok c = let e = sym (c.in-Ok.ensures ∙ ap answer_to c.in-Some.ensures) in record { value = rw e refl; sum_after = rw e refl }

pub returns-in-Err : goal.returns-in-Err
returns-in-Err c = let e = c.in-Err.ensures ∙ ap answer_to c.in-Some.ensures in
    let l = left arc.reason_number c.in-Err.refused in
    record { value = c.number-in-Err.ensures ∙ sym l.number ∙ ap outcome_number e; sum_after = sym (l.lent velocity_sum _) ∙ ap (λ a. sum_after velocity_sum a c.args.sum.now) e }
