-- `apart::measured` meets its contract: each return is one way that taking apart goes.
use mathlib.Core.Path.{sym, ◌∙◌}
use Rattle.rows.proofs.Laws.{row_refused}
use Rattle.contents.specs.Contents.{count_of, deck_in}
use Rattle.layout.proofs.Refusals.{passed_on}
use Rattle.apart.proofs.Taking.{counted, deck_refused, no_room, in_room}
use Rattle.apart.proofs.measured.Goals as goal

pub returns-in_err-version : goal.returns-in_err-version
returns-in_err-version c = let deck = c.args.deck.now in
    passed_on c.from_residual.result _ c.from_residual.ensures.1 ∙ deck_refused deck c.args.places c.args.room (row_refused (deck_in deck) (λ d. (d.version, count_of deck)) (sym c.in_err-version.ensures))

pub returns-then-count-places : goal.returns-then-count-places
returns-then-count-places c = let n = counted c.args.deck.now (sym c.in_ok-version.ensures) in in_room c.args.deck.now c.args.places c.args.room n (c.summed-size.ensures n.is n.are) c.if-count-places.true

pub returns-else-count-places : goal.returns-else-count-places
returns-else-count-places c = let n = counted c.args.deck.now (sym c.in_ok-version.ensures) in no_room c.args.deck.now c.args.places c.args.room n (c.summed-size.ensures n.is n.are) c.if-count-places.false

pub summed-size-requires : goal.summed-size-requires
summed-size-requires c = sym c.in_ok-version.ensures
