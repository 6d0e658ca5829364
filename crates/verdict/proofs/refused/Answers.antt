-- `verdict::refused` meets its contract: each return is one way through the definition's row of tests.
use mathlib.Core.Path.{◌≡◌, refl}
use Rattle.rows.specs.Rows.{pass, must}
use Rattle.card.specs.Fields.{parts}
use Rattle.verdict.specs.Verdict.{refused_card}
use Rattle.verdict.proofs.refused.Goals as goal
use Rattle.verdict.proofs.refused.Goals.{After-refuses_as}

pub returns-then-not-half : goal.returns-then-not-half
unfolding must refused_card
returns-then-not-half c = rw (c.number.ensures, ← c.half.ensures, ← c.half-2.ensures, c.if-not-half.true) refl

-- past the spares, the row as it was found
no_spare : (c : After-refuses_as) → refused_card (parts c.args.question.now c.args.answer.now) ≡ must c.refuses_as.result 24 (pass tt)
unfolding must refused_card
no_spare c = rw (← c.half.ensures, ← c.half-2.ensures, c.if-not-half.false, ← c.problem.ensures, ← c.kepler.ensures, ← c.half-3.ensures, ← c.refuses_as.ensures) refl

pub returns-then-not-refuses_as : goal.returns-then-not-refuses_as
unfolding must
returns-then-not-refuses_as c = rw (no_spare (goal.at.returns-then-not-refuses_as c).After-refuses_as, c.if-not-refuses_as.true, c.number-then-not-refuses_as.ensures) refl

pub returns : goal.returns
unfolding must
returns c = rw (no_spare (goal.at.returns c).After-refuses_as, c.if-not-refuses_as.false) refl
