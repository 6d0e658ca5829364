-- What the programs that make a deck make it of: RULES, Writing a deck 8. Definitions only.
use Rattle.std.specs.Prelude.{ℕ, ◌+◌, ◌*◌, List, leb, length, drop}
use Rattle.words.specs.Words.{value_at}
use Rattle.rows.specs.Rows.{Checked, must}
use Rattle.card.specs.Fields.{largest_given}
use Rattle.contents.specs.Contents.{Deck, most_cards, read_of_a_deck}
use Rattle.problems.specs.Problems.{problem_deck}
use Rattle.copier.specs.Copy.{copy_of}
use Rattle.maker.specs.declared.Asked.{Asked}
use Rattle.maker.specs.declared.Asked.TheVariants as asked

-- the version and the form come first, four bytes each; where they are not all there, no version is given
abbrev pub asked_size : ℕ
asked_size = 8

unfoldable pub asked_deck : (given : List ℕ) → Checked Deck
asked_deck given =
    must (leb asked_size (length given)) 42
    (problem_deck (value_at 4 given 0) (value_at 4 given 4) (drop asked_size given))

-- the deck that the bytes come to
abbrev pub deck_made : Asked → (given : List ℕ) → Checked Deck
deck_made asked.Problems given = asked_deck given
deck_made asked.Copy given = copy_of given

-- how many bytes are read; of problems, one more than a deck may have, with object and epoch
abbrev pub read_of_problems : ℕ
read_of_problems = asked_size + largest_given * (most_cards + 1)

abbrev pub read_of : Asked → ℕ
read_of asked.Problems = read_of_problems
read_of asked.Copy = read_of_a_deck
