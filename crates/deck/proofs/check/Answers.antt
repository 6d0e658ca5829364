-- `deck::check` meets its contract: the contents' refusal, 39, or the verdicts and the tally; where it refuses, the list is as it was lent.
use mathlib.Core.Path.{sym, ◌∙◌}
use Rattle.std.proofs.lemmas.Result.{err_from_is_err_and}
use Rattle.ruling.specs.Said.{reason_number}
use Rattle.contents.specs.Contents.{entry_at, cards_from, Passes}
use Rattle.contents.proofs.Opened.{Opened, opened}
use Rattle.deck.proofs.Settled.{contents_refused, list_too_short, accepted}
use Rattle.deck.proofs.check.Goals as goal
use Rattle.deck.proofs.check.Goals.{In_ok-version}

-- the contents passed
passed : (c : In_ok-version) → let deck = c.args.deck.now in let v = c.in_ok-version.version in let count = c.in_ok-version.count in
    Opened deck v count × Passes (cards_from v deck count 0 (entry_at count))
passed c = opened c.args.deck.now c.in_ok-version.version c.in_ok-version.count (sym c.in_ok-version.ensures)

pub returns-in_err-version : goal.returns-in_err-version
returns-in_err-version c =
    let p = err_from_is_err_and c.from_residual.result c.from_residual.ensures.1 in
    let both = contents_refused c.args.deck.now c.args.verdicts.now (reason_number c.in_err-version.field-0.0) (sym c.in_err-version.ensures) in
    record { result_value = rw (p.1, p.2) both.0; verdicts_after = both.1 }

pub returns-then-verdicts-count : goal.returns-then-verdicts-count
returns-then-verdicts-count c = let o = passed (goal.at.returns-then-verdicts-count c).In_ok-version in
    let both = list_too_short c.args.deck.now c.in_ok-version.version c.in_ok-version.count o.0 o.1 c.args.verdicts.now c.if-verdicts-count.true in record { result_value = both.0; verdicts_after = both.1 }

pub judged-requires : goal.judged-requires
judged-requires c = let o = passed (goal.at.judged-requires c).In_ok-version in record { count_le_most_cards = (o.0.most, c.if-verdicts-count.false); passes = o.1 }

pub returns : goal.returns
returns c = let o = passed (goal.at.returns c).In_ok-version in
    let is = accepted c.args.deck.now c.in_ok-version.version c.in_ok-version.count o.0 o.1 c.args.verdicts.now c.if-verdicts-count.false in
    record { result_value = c.judged.ensures.result_value ∙ is.0; verdicts_after = c.judged.ensures.verdicts_after ∙ is.1 }
