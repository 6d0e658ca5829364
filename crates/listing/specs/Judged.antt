-- What the loop over the cards is given: the deck was accepted, and the list has its verdicts. Definitions only.
use Rattle.std.specs.Prelude.{ℕ, ◌≡◌, List, ◌++◌, length}
use Rattle.rows.specs.Rows.{pass}
use Rattle.contents.specs.Contents.{Deck, deck_in}
use Rattle.deck.specs.Check.{numbers_of}

-- an accepted deck's cards, counted, with their verdicts' numbers in the first places of a list
pub record Judged (deck list : List ℕ) (count : ℕ) : Type 0 where
  pub is : Deck
  pub deck_is : deck_in deck ≡ pass is
  pub as_many : length is.cards ≡ count
  pub behind : List ℕ
  pub numbers : list ≡ numbers_of is.version is.cards ++ behind
