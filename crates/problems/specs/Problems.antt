-- The cards that problems make: RULES, Writing a deck 2. Definitions only.
use Rattle.std.specs.Prelude.{ℕ, zero, suc, ◌/◌, ◌%◌, List, [], ◌∷◌, leb, eqb, length, take, drop}
use Rattle.rows.specs.Rows.{Checked, pass, must, onward}
use Rattle.version.specs.declared.Version.{Version}
use Rattle.version.specs.Version.{version_given}
use Rattle.card.specs.Fields.{Card, given_size}
use Rattle.contents.specs.Contents.{Deck, most_cards}
use Rattle.predicted.specs.Predicted.{card_of}

-- the cards of the first n problems
unfoldable pub cards_for : Version → (n : ℕ) → (problems : List ℕ) → List Card
cards_for v zero problems = []
cards_for v (suc n) problems = card_of (take (given_size v) problems) ∷ cards_for v n (drop (given_size v) problems)

-- the deck of all: 40 where more than 256 are whole, 46 where the bytes end inside one
abbrev pub deck_from : Version → (problems : List ℕ) → Deck
deck_from v problems = record { version = v; cards = cards_for v (length problems / given_size v) problems }

unfoldable pub predicted_deck : Version → (problems : List ℕ) → Checked Deck
predicted_deck v problems =
    must (leb (length problems / given_size v) most_cards) 40
    (must (eqb (length problems % given_size v) 0) 46
    (pass (deck_from v problems)))

-- Writing a deck 1: and before that 42, of version and form
unfoldable pub problem_deck : (number form : ℕ) → (problems : List ℕ) → Checked Deck
problem_deck number form problems = onward (version_given number form) (λ v. predicted_deck v problems)
