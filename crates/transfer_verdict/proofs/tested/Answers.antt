-- `transfer_verdict::tested` meets its contract: the way, the transfer's own refusal, or what z comes to.
use mathlib.Core.Path.{◌≡◌, refl, ◌∙◌}
use Rattle.std.proofs.lemmas.Result.{err_from_is_err_and}
use Rattle.rows.specs.Rows.{onward}
use Rattle.arc.specs.Said.{reason_number}
use Rattle.card.specs.Fields.{parts, transfer_of}
use Rattle.compared.specs.Said.{by_number}
use Rattle.compared.proofs.Rejecting.{or_rejected, rejected_by}
use Rattle.transfer_verdict.specs.TransferVerdict.{at_z, transfer_card}
use Rattle.transfer_verdict.proofs.tested.Goals as goal
use Rattle.transfer_verdict.proofs.tested.Goals.{After-ok_or, After-map_err-start}

-- what the way comes to
asked : (c : After-ok_or) → transfer_of c.args.question.now ≡ by_number c.ok_or.result
asked c = rw (← c.transfer.ensures, c.ok_or.ensures.value, c.number.ensures) (or_rejected 23 c.transfer.result)

pub returns-in_err-q : goal.returns-in_err-q
unfolding onward transfer_card
returns-in_err-q c =
    let p = err_from_is_err_and c.from_residual.result c.from_residual.ensures.1 in
    rw (p.1, p.2, asked (goal.at.returns-in_err-q c).After-ok_or, c.in_err-q.was) refl

-- past the way, the row as it was found
by_way : (c : After-map_err-start) → transfer_card (parts c.args.question.now c.args.answer.now) ≡ onward (by_number c.map_err-start.result) (λ e. at_z c.args.answer.now e.0 e.1)
unfolding onward transfer_card
by_way c = rw (asked (goal.at.After-map_err-start c).After-ok_or, c.in_ok-q.was, ← c.entry.ensures, rejected_by reason_number c.entry.result c.map_err-start.result c.map_err-start.ensures.cases) refl

pub returns-in_default : goal.returns-in_default
unfolding onward
returns-in_default c = rw (c.unwrap_or.ensures, c.err.ensures.value, by_way (goal.at.returns-in_default c).After-map_err-start, c.in_default.is) refl

pub returns : goal.returns
unfolding onward
returns c = c.at_z.ensures ∙ rw (by_way (goal.at.returns c).After-map_err-start, c.in-Ok.is) refl
