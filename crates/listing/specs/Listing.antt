-- A deck's listing: RULES, The check program's listing, "The listing" below. Definitions only.
use Rattle.std.specs.Prelude.{ℕ, ◌+◌, List, [], ◌∷◌, ◌++◌}
use Rattle.pieces.specs.Pieces.{joined}
use Rattle.rows.specs.Rows.{Checked, pass, refuse}
use Rattle.version.specs.declared.Version.{Version}
use Rattle.card.specs.Fields.{Card, tag_of}
use Rattle.contents.specs.Contents.{Deck, deck_in}
use Rattle.ruling.specs.Said.{number_in}
use Rattle.verdict.specs.Verdict.{verdict_of}
use Rattle.deck.specs.Tally.{tally_of}
use Rattle.deck.specs.Check.{verdicts_of}
use Rattle.reply.specs.Reply.{refused_line}
use Rattle.item.specs.Item.{placed_line}
use Rattle.listed.specs.Listed.{totals_line, residual_lines}

-- The listing 2: the verdict's number
abbrev pub verdict_number : Version → Card → ℕ
verdict_number v c = number_in (verdict_of v c)

-- The listing 2: a line for each card, with its place
abbrev pub card_line : Version → (place : ℕ) → Card → List ℕ
card_line v place c = placed_line place c.kind (tag_of v c.kind c.body) (verdict_number v c)

unfoldable pub card_lines : Version → (place : ℕ) → List Card → List ℕ
card_lines v place [] = []
card_lines v place (c ∷ cards) = card_line v place c ++ card_lines v (place + 1) cards

-- The listing 2 to 4: an accepted deck
abbrev pub accepted_lines : Deck → List ℕ
accepted_lines d =
    let tally = tally_of (verdicts_of d.version d.cards) in
    joined (card_lines d.version 1 d.cards ∷ totals_line tally.0 ∷ residual_lines tally.1 ∷ [])

-- The listing 5: a refused deck has one line
abbrev pub lines_for : Checked Deck → List ℕ
lines_for (pass d) = accepted_lines d
lines_for (refuse k) = refused_line k

-- the listing, from the deck's bytes alone
unfoldable pub listing_of : (deck : List ℕ) → List ℕ
listing_of deck = lines_for (deck_in deck)

-- the bytes of the longest listing
abbrev pub longest_listing : ℕ
longest_listing = 13279
