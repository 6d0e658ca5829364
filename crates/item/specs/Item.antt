-- The line of a card in a deck's listing: RULES, The check program's listing, "The listing" below. Definitions only.
use Rattle.std.specs.Prelude.{ℕ, List, [], ◌∷◌, Option}
use Rattle.pieces.specs.Pieces.{joined}
use Rattle.text.specs.Text.{text, count}
use Rattle.tag.specs.declared.Tag.{Tag}
use Rattle.tag.specs.Tag.{tag_text}
use Rattle.card.specs.declared.Kind.{Kind}
use Rattle.card.specs.declared.Kind.TheVariants as kind

-- The listing 2: the card's kind
abbrev pub kind_word : Kind → List ℕ
kind_word kind.Solved = text " solved"
kind_word kind.Refused = text " refused"
kind_word kind.Transfer = text " solved"

-- The listing 2: a card's line, with its place, its object and epoch or that it has neither, and its verdict's number
abbrev pub placed_line : (place : ℕ) → Kind → Option Tag → (verdict : ℕ) → List ℕ
placed_line place kind tag verdict = joined (text "card" ∷ count place ∷ kind_word kind ∷ tag_text tag ∷ count verdict ∷ text "\n" ∷ [])
