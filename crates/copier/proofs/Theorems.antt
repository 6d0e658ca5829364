-- Copying an accepted deck whose spares are all 0 gives the same bytes: clearing the spares changes no card, and the layout of a deck's cards is
-- the deck.
use mathlib.Core.Path.{◌≡◌, ap, ◌∙◌}
use mathlib.Core.List.{List}
use Prim.Native.Nat.{ℕ}
use Rattle.words.proofs.Written.{Bytes}
use Rattle.rows.specs.Rows.{pass}
use Rattle.card.specs.Fields.{Card}
use Rattle.contents.specs.Contents.{Deck, deck_in}
use Rattle.layout.specs.Layout.{deck_of}
use Rattle.layout.proofs.Cleared.{SparesZero, cleared_same}
use Rattle.layout.proofs.WriteBack.{write_back}
use Rattle.copier.specs.Copy.{copy_of}
use Rattle.copier.proofs.Copying.{copy_passes}

pub copied_same : (deck : List ℕ) (d : Deck) → Bytes deck → deck_in deck ≡ pass d → SparesZero d.version d.cards → (copy_of deck ≡ pass d) × (deck_of d ≡ deck)
copied_same deck d b e z = (copy_passes deck d e ∙ ap (λ (cards : List Card). pass (record { version = d.version; cards = cards })) (cleared_same deck d b e z), write_back deck d b e)
