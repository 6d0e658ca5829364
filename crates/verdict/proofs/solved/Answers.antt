-- `verdict::solved` meets its contract: the spare, the entry's refusal, or what x comes to.
use mathlib.Core.Path.{◌≡◌, refl, ◌∙◌}
use borrow.Author.Tests.{ne_eqb, eq-eqb}
use Rattle.rows.specs.Rows.{must, onward}
use Rattle.conic.specs.Said.{reason_number}
use Rattle.card.specs.Fields.{parts}
use Rattle.compared.specs.Said.{by_number}
use Rattle.compared.proofs.Rejecting.{rejected_by}
use Rattle.verdict.specs.Verdict.{at_x, solved_card}
use Rattle.verdict.proofs.solved.Goals as goal
use Rattle.verdict.proofs.solved.Goals.{After-map_err-start}

pub returns-then-half-ne0 : goal.returns-then-half-ne0
unfolding must solved_card
returns-then-half-ne0 c = rw (c.number.ensures, ← c.half.ensures, ne_eqb c.half.result 0 c.if-half-ne0.true) refl

-- past the spare, the row as it was found
no_spare : (c : After-map_err-start) → solved_card (parts c.args.question.now c.args.answer.now) ≡ onward (by_number c.map_err-start.result) (λ e. at_x c.args.answer.now e.0 e.1)
unfolding must solved_card
no_spare c = rw (← c.half.ensures, eq-eqb c.half.result 0 c.if-half-ne0.false, ← c.problem.ensures, ← c.entry.ensures, rejected_by reason_number c.entry.result c.map_err-start.result c.map_err-start.ensures.cases) refl

pub returns-in_default : goal.returns-in_default
unfolding onward
returns-in_default c = rw (c.unwrap_or.ensures, c.err.ensures.value, no_spare (goal.at.returns-in_default c).After-map_err-start, c.in_default.is) refl

pub returns : goal.returns
unfolding onward
returns c = c.at_x.ensures ∙ rw (no_spare (goal.at.returns c).After-map_err-start, c.in-Ok.is) refl
