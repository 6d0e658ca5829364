-- The contents of a deck from the numbers of its kinds: those of cards' kinds are the contents of these cards' deck, as long as header and
-- entries, and the bodies stand behind them.
use mathlib.Core.Path.{◌≡◌, refl, ap, ap₂, ◌∙◌}
use mathlib.Core.List.{List, [], ◌∷◌, ◌++◌}
use Prim.Native.Nat.{ℕ, ◌≤◌, ◌<◌}
use borrow.Author.Tests.{le-leb, lt-leb}
use lib.ListN.{length}
use Rattle.version.specs.declared.Version.{Version}
use Rattle.card.specs.declared.Kind.{Kind}
use Rattle.card.specs.Fields.{Card}
use Rattle.contents.specs.Contents.{Deck, entry_at, most_cards}
use Rattle.layout.specs.Layout.{contents_of, kinds_in, bodies_of, deck_of, named_in, contents_for}
use Rattle.layout.specs.Packed.{kinds_of}
use Rattle.layout.proofs.Sizes.{length_contents}
use Rattle.layout.proofs.KindNumbers.{kind_of_number}
use Rattle.layout.proofs.Packed.{length_kinds}

-- as many numbers as may be, or more
pub few_enough : (v : Version) (numbers : List ℕ) → length numbers ≤ most_cards → contents_for v numbers ≡ contents_of v (length numbers) (named_in numbers)
unfolding contents_for
few_enough v numbers h = rw (le-leb (length numbers) most_cards h) refl

pub too_many : (v : Version) (numbers : List ℕ) → most_cards < length numbers → contents_for v numbers ≡ []
unfolding contents_for
too_many v numbers h = rw (lt-leb (length numbers) most_cards h) refl

-- the numbers of cards' kinds name these kinds
names : (cards : List Card) → named_in (kinds_of cards) ≡ kinds_in cards
unfolding named_in
names [] = refl
names (c ∷ cards) = rw (kind_of_number c.kind) (ap (λ (kinds : List Kind). c.kind ∷ kinds) (names cards))

module _ (d : Deck) (few : length d.cards ≤ most_cards) where
  contents_are : contents_for d.version (kinds_of d.cards) ≡ contents_of d.version (length d.cards) (kinds_in d.cards)
  contents_are = few_enough d.version (kinds_of d.cards) (rw (length_kinds d.cards) few) ∙ ap₂ (contents_of d.version) (length_kinds d.cards) (names d.cards)

  pub contents_length : length (contents_for d.version (kinds_of d.cards)) ≡ entry_at (length d.cards)
  contents_length = ap length contents_are ∙ length_contents d.version d.cards

  pub contents_first : contents_for d.version (kinds_of d.cards) ++ bodies_of d.cards ≡ deck_of d
  unfolding deck_of
  contents_first = ap (λ (l : List ℕ). l ++ bodies_of d.cards) contents_are
