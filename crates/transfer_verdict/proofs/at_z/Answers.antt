-- `transfer_verdict::at_z` meets its contract: each return is one way through the definition's row of tests.
use mathlib.Core.Path.{◌≡◌, refl}
use Rattle.std.proofs.lemmas.Result.{err_from_is_err_and}
use Rattle.rows.specs.Rows.{pass, must, onward}
use Rattle.arc.specs.Said.{reason_number}
use Rattle.arc.specs.Arc.{velocity_at}
use Rattle.compared.specs.Said.{by_number}
use Rattle.compared.specs.Compared.{found_by, answered_by}
use Rattle.compared.proofs.Rejecting.{rejected_by}
use Rattle.transfer_verdict.specs.TransferVerdict.{same_velocity, at_z}
use Rattle.transfer_verdict.proofs.at_z.Goals as goal
use Rattle.transfer_verdict.proofs.at_z.Goals.{After-time, After-map_err}

-- the row as it was found
row : (c : After-time) → at_z c.args.answer.now c.args.o c.args.b ≡ onward (by_number c.time.result) (λ residual. found_by (velocity_at c.args.o) (same_velocity c.args.answer.now) c.number-z.result residual)
unfolding answered_by at_z
row c = rw (c.time.ensures, c.time_at.ensures, c.number-z.ensures) refl

pub returns-in_err-residual : goal.returns-in_err-residual
unfolding onward
returns-in_err-residual c =
    let p = err_from_is_err_and c.from_residual.result c.from_residual.ensures.1 in
    rw (p.1, p.2, row (goal.at.returns-in_err-residual c).After-time, c.in_err-residual.was) refl

-- past the time
in_time : (c : After-map_err) → at_z c.args.answer.now c.args.o c.args.b ≡ onward (by_number c.map_err.result) (λ v. must (same_velocity c.args.answer.now v) 22 (pass c.in_ok-residual.residual))
unfolding onward found_by
in_time c = rw (row (goal.at.After-map_err c).After-time, c.in_ok-residual.was, ← c.velocity_at.ensures, rejected_by reason_number c.velocity_at.result c.map_err.result c.map_err.ensures.cases) refl

pub returns-in_err-v : goal.returns-in_err-v
unfolding onward
returns-in_err-v c =
    let p = err_from_is_err_and c.from_residual-in_err-v.result c.from_residual-in_err-v.ensures.1 in
    rw (p.1, p.2, in_time (goal.at.returns-in_err-v c).After-map_err, c.in_err-v.was) refl

pub returns-then-same : goal.returns-then-same
unfolding must onward
returns-then-same c = rw (in_time (goal.at.returns-then-same c).After-map_err, c.in_ok-v.was, ← c.same.ensures, c.if-same.true) refl

pub returns-else-same : goal.returns-else-same
unfolding must onward
returns-else-same c = rw (c.number.ensures, in_time (goal.at.returns-else-same c).After-map_err, c.in_ok-v.was, ← c.same.ensures, c.if-same.false) refl
