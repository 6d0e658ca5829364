-- `listing::write` meets its contract: the line of the refusal, which is one of the contents, since the list has 256 places; or the cards' lines,
-- the totals' and those of mean and worst, one behind the other.
use mathlib.Core.Path.{◌≡◌, refl, sym, ap, ◌∙◌}
use mathlib.Core.List.{List, [], ◌∷◌}
use Prim.Native.Nat.{ℕ, ◌+◌}
use native.Mathlib.Omega.{arith}
use lib.ListN.{replicate}
use Rattle.pieces.specs.Pieces.{joined}
use Rattle.pieces.specs.Page.{written}
use Rattle.pieces.proofs.Pages.{pages}
use Rattle.rows.specs.Rows.{refuse}
use Rattle.contents.specs.Contents.{most_cards, deck_in}
use Rattle.ruling.specs.Said.{reason_number}
use Rattle.deck.specs.declared.Totals.{Totals}
use Rattle.deck.specs.Tally.{Residuals}
use Rattle.deck.specs.Said.{told}
use Rattle.deck.specs.Check.{list_after}
use Rattle.deck.proofs.Accepted.{Answered, answered, refused_contents}
use Rattle.reply.specs.Reply.{refused_line}
use Rattle.listed.specs.Listed.{totals_line, residual_lines}
use Rattle.listing.specs.Listing.{card_lines, lines_for, listing_of}
use Rattle.listing.specs.Judged.{Judged}
use Rattle.listing.proofs.write.Goals as goal
use Rattle.listing.proofs.write.Goals.{In-Ok}

-- a refused deck's listing, and an accepted one's
only_line : (deck : List ℕ) {k : ℕ} → deck_in deck ≡ refuse k → refused_line k ≡ listing_of deck
unfolding listing_of
only_line deck e = sym (ap lines_for e)

all_lines : {deck list : List ℕ} {totals : Totals} {r : Residuals} (a : Answered deck list totals r) → joined (card_lines a.is.version 1 a.is.cards ∷ totals_line totals ∷ residual_lines r ∷ []) ≡ listing_of deck
unfolding listing_of
all_lines a = sym (ap lines_for a.deck_is ∙ ap (λ (t : Totals × Residuals). joined (card_lines a.is.version 1 a.is.cards ∷ totals_line t.0 ∷ residual_lines t.1 ∷ [])) a.tally)

-- the list begins with the verdicts' numbers
judged : {deck list after : List ℕ} {totals : Totals} {r : Residuals} → Answered deck list totals r → after ≡ list_after deck list → Judged deck after (totals.solved + totals.refused + totals.rejected)
judged a e = record { is = a.is; deck_is = a.deck_is; as_many = sym a.as_many; behind = _; numbers = e ∙ a.numbers }

-- the deck was accepted
accepted : (c : In-Ok) → Answered c.args.deck.now (replicate most_cards 0) c.in-Ok.totals (told c.in-Ok.residuals)
accepted c = answered _ _ _ _ (sym c.in-Ok.ensures.result_value)

pub overflow_add-count : goal.overflow_add-count
overflow_add-count c = let a = accepted (goal.at.overflow_add-count c).In-Ok in omega (arith, a.as_many, a.few)

pub overflow_add-count-in-Ok : goal.overflow_add-count-in-Ok
overflow_add-count-in-Ok c = let a = accepted (goal.at.overflow_add-count-in-Ok c).In-Ok in omega (arith, a.as_many, a.few)

pub cards-requires : goal.cards-requires
cards-requires c = (judged (accepted (goal.at.cards-requires c).In-Ok) c.in-Ok.ensures.verdicts_after, c.requires)

pub returns-in-Err : goal.returns-in-Err
returns-in-Err c = let deck = c.args.deck.now in
    let contents = refused_contents deck most_cards (reason_number c.in-Err.why) (omega arith) (sym c.in-Err.ensures.result_value) in
    c.refused.ensures ∙ ap (written c.args.page.now) (ap refused_line c.number.ensures ∙ only_line deck contents)

pub returns-in-Ok : goal.returns-in-Ok
returns-in-Ok c = let a = accepted (goal.at.returns-in-Ok c).In-Ok in
    rw (c.residual_lines.ensures, c.totals_line.ensures, c.cards.ensures a.is a.deck_is, sym (all_lines a)) (simp pages refl)
