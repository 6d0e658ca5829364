-- `linked::tailfiddle_predict` meets its contract: what Kepler gave is what the definition says, solved or refused.
use mathlib.Core.Path.{refl, sym, ap, ◌∙◌}
use Rattle.conic.specs.Said as conic
use Rattle.kepler.specs.Kepler.{kepler_of}
use Rattle.linked.specs.Linked.{outcome_number, state_sum, sum_after}
use Rattle.linked.proofs.Refused.{left}
use Rattle.linked.proofs.tailfiddle_predict.Goals as goal

pub returns-in-Ok : goal.returns-in-Ok
returns-in-Ok c = let e = sym (c.in-Ok.ensures ∙ ap kepler_of c.problem.ensures) in
    record { value = rw e refl; sum_after = c.state_sum.ensures ∙ rw e refl }

pub returns-in-Err : goal.returns-in-Err
returns-in-Err c = let e = c.in-Err.ensures ∙ ap kepler_of c.problem.ensures in
    let l = left conic.reason_number c.in-Err.refusal in
    record { value = c.number.ensures ∙ sym l.number ∙ ap outcome_number e; sum_after = sym (l.lent state_sum _) ∙ ap (λ a. sum_after state_sum a c.args.sum.now) e }
