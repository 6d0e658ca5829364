-- `verdict::at_x` meets its contract: each return is one way through the definition's row of tests.
use mathlib.Core.Path.{◌≡◌, refl}
use Rattle.std.proofs.lemmas.Result.{err_from_is_err_and}
use Rattle.rows.specs.Rows.{pass, must, onward}
use Rattle.conic.specs.Said.{reason_number}
use Rattle.conic.specs.Unfolding.{arrival_at}
use Rattle.compared.specs.Said.{by_number}
use Rattle.compared.specs.Compared.{found_by, answered_by}
use Rattle.compared.proofs.Rejecting.{rejected_by}
use Rattle.verdict.specs.Verdict.{same_state, at_x}
use Rattle.verdict.proofs.at_x.Goals as goal
use Rattle.verdict.proofs.at_x.Goals.{After-time, After-map_err}

-- the row as it was found
row : (c : After-time) → at_x c.args.answer.now c.args.o c.args.b ≡ onward (by_number c.time.result) (λ residual. found_by (arrival_at c.args.o) (same_state c.args.answer.now) c.number-x.result residual)
unfolding answered_by at_x
row c = rw (c.time.ensures, c.time_at.ensures, c.number-x.ensures) refl

pub returns-in_err-residual : goal.returns-in_err-residual
unfolding onward
returns-in_err-residual c =
    let p = err_from_is_err_and c.from_residual.result c.from_residual.ensures.1 in
    rw (p.1, p.2, row (goal.at.returns-in_err-residual c).After-time, c.in_err-residual.was) refl

-- past the time
in_time : (c : After-map_err) → at_x c.args.answer.now c.args.o c.args.b ≡ onward (by_number c.map_err.result) (λ state. must (same_state c.args.answer.now state) 22 (pass c.in_ok-residual.residual))
unfolding onward found_by
in_time c = rw (row (goal.at.After-map_err c).After-time, c.in_ok-residual.was, ← c.arrive_at.ensures, rejected_by reason_number c.arrive_at.result c.map_err.result c.map_err.ensures.cases) refl

pub returns-in_err-state : goal.returns-in_err-state
unfolding onward
returns-in_err-state c =
    let p = err_from_is_err_and c.from_residual-in_err-state.result c.from_residual-in_err-state.ensures.1 in
    rw (p.1, p.2, in_time (goal.at.returns-in_err-state c).After-map_err, c.in_err-state.was) refl

pub returns-then-same : goal.returns-then-same
unfolding must onward
returns-then-same c = rw (in_time (goal.at.returns-then-same c).After-map_err, c.in_ok-state.was, ← c.same.ensures, ← c.same-2.ensures, c.if-same.true) refl

pub returns-else-same : goal.returns-else-same
unfolding must onward
returns-else-same c = rw (c.number.ensures, in_time (goal.at.returns-else-same c).After-map_err, c.in_ok-state.was, ← c.same.ensures, ← c.same-2.ensures, c.if-same.false) refl
