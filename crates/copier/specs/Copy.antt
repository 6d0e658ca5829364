-- A deck copied: RULES, Writing a deck 7. Definitions only.
use Rattle.std.specs.Prelude.{List, map, ℕ}
use Rattle.rows.specs.Rows.{Checked, pass, onward}
use Rattle.contents.specs.Contents.{Deck, deck_in}
use Rattle.layout.specs.Packed.{cleared}

-- the copy: the deck's own version, and its cards, each with its spares cleared; or the deck's refusal
abbrev pub cleared_deck : Deck → Deck
cleared_deck d = record { version = d.version; cards = map (cleared d.version) d.cards }

unfoldable pub copy_of : (deck : List ℕ) → Checked Deck
copy_of deck = onward (deck_in deck) (λ d. pass (cleared_deck d))
