-- `compared::time` meets its contract: each return is one way through the definition's row of tests.
use mathlib.Core.Path.{◌≡◌, refl, sym}
use Rattle.exact.specs.Numbers.{is_finite, is_near}
use Rattle.rows.specs.Rows.{pass, must}
use Rattle.compared.specs.Compared.{in_seconds, timed_by}
use Rattle.compared.proofs.time.Goals as goal
use Rattle.compared.proofs.time.Goals.{After-finite-2, After-near}

pub returns-then-not-finite-contains : goal.returns-then-not-finite-contains
unfolding must timed_by
returns-then-not-finite-contains c = rw (c.number.ensures, ← c.finite.ensures, ← c.contains.ensures, c.if-not-finite-contains.true) refl

-- the second test is of the time at x
tested : (c : After-finite-2) → is_finite c.args.time ≡ c.finite-2.result
tested c = sym c.finite-2.ensures

-- past the first test, the row as it was found
in_bracket : (c : After-finite-2) → timed_by c.args.b c.args.x c.args.time c.args.t c.args.unit ≡ must c.finite-2.result 6 (must (is_near c.args.time c.args.t) 21 (pass (in_seconds c.args.time c.args.t c.args.unit)))
unfolding must timed_by
in_bracket c = rw (← c.finite.ensures, ← c.contains.ensures, c.if-not-finite-contains.false, tested c) refl

pub returns-then-not-finite : goal.returns-then-not-finite
unfolding must
returns-then-not-finite c = rw (in_bracket (goal.at.returns-then-not-finite c).After-finite-2, c.if-not-finite.true, c.number-then-not-finite.ensures) refl

-- past the second
in_time : (c : After-near) → timed_by c.args.b c.args.x c.args.time c.args.t c.args.unit ≡ must c.near.result 21 (pass (in_seconds c.args.time c.args.t c.args.unit))
unfolding must
in_time c = rw (in_bracket (goal.at.After-near c).After-finite-2, c.if-not-finite.false, ← c.near.ensures) refl

pub returns-then-not-near : goal.returns-then-not-near
unfolding must
returns-then-not-near c = rw (in_time (goal.at.returns-then-not-near c).After-near, c.if-not-near.true, c.number-then-not-near.ensures) refl

pub returns : goal.returns
unfolding must
returns c = rw (in_time (goal.at.returns c).After-near, c.if-not-near.false, c.absolute.ensures) refl
