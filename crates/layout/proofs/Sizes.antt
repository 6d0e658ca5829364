-- How many bytes a deck has that is made of cards whose bodies have their kinds' sizes, and how many their fields without spares have.
use mathlib.Core.Path.{◌≡◌, refl, ap, ◌∙◌}
use mathlib.Core.List.{List, [], ◌∷◌}
use Prim.Native.Nat.{ℕ, ◌+◌, ◌*◌, ◌≤◌}
use native.Mathlib.Omega.{arith}
use lib.ListN.{length, length-append, length-map}
use Rattle.spelled.proofs.Length.{length_bytes}
use Rattle.version.specs.declared.Version.{Version}
use Rattle.card.specs.declared.Kind.{Kind}
use Rattle.card.specs.Fields.{Card, size_of, largest_body, largest_fields}
use Rattle.card.specs.Made.{fields_in}
use Rattle.card.proofs.Sizes.{size_most}
use Rattle.card.proofs.Packed.{length_fields, packed_most}
use Rattle.contents.proofs.Cards.{AllSized}
use Rattle.contents.specs.Contents.{Deck, header_size, entry_size, entry_at, most_cards, largest_deck}
use Rattle.layout.specs.Layout.{entry_for, entries_from, contents_of, kinds_in, bodies_of, deck_of}
use Rattle.layout.specs.Packed.{fields_of}

pub length_entry : (v : Version) (kind : Kind) (at : ℕ) → length (entry_for v kind at) ≡ entry_size
length_entry v kind at = simp (length-append, length_bytes)

pub length_entries : (v : Version) (at : ℕ) (kinds : List Kind) → length (entries_from v at kinds) ≡ entry_size * length kinds
unfolding entries_from
length_entries v at [] = refl
length_entries v at (kind ∷ kinds) = length-append (entry_for v kind at) _ ∙ ap (λ (n : ℕ). n + length (entries_from v (at + size_of v kind) kinds)) (length_entry v kind at) ∙ rw (length_entries v (at + size_of v kind) kinds) (omega arith)

pub length_contents : (v : Version) (cards : List Card) → length (contents_of v (length cards) (kinds_in cards)) ≡ entry_at (length cards)
length_contents v cards = simp (length-append, length_bytes, length_entries v (entry_at (length cards)) (kinds_in cards), length-map cards (λ (c : Card). c.kind)) (omega arith)

pub length_deck : (d : Deck) → length (deck_of d) ≡ entry_at (length d.cards) + length (bodies_of d.cards)
unfolding deck_of
length_deck d = length-append (contents_of d.version (length d.cards) (kinds_in d.cards)) (bodies_of d.cards) ∙ ap (λ (n : ℕ). n + length (bodies_of d.cards)) (length_contents d.version d.cards)

-- no more than with as many of the largest cards, and no more than the largest deck's
bodies_most : (v : Version) (cards : List Card) → AllSized v cards → length (bodies_of cards) ≤ largest_body * length cards
unfolding bodies_of
bodies_most v [] w = omega arith
bodies_most v (c ∷ cards) w = simp length-append (omega (arith, w.0, size_most v c.kind, bodies_most v cards w.1))

pub deck_within : (d : Deck) → AllSized d.version d.cards → length (deck_of d) ≤ header_size + length d.cards * (entry_size + largest_body)
deck_within d w = omega (arith, length_deck d, bodies_most d.version d.cards w)

pub deck_most : (d : Deck) → length d.cards ≤ most_cards → AllSized d.version d.cards → length (deck_of d) ≤ largest_deck
deck_most d h w = omega (arith, deck_within d w)

pub fields_most : (v : Version) (cards : List Card) → AllSized v cards → length (fields_of v cards) ≤ largest_fields * length cards
unfolding fields_of
fields_most v [] w = omega arith
fields_most v (c ∷ cards) w = omega (arith, length-append (fields_in v c.kind c.body) (fields_of v cards), length_fields v c.kind c.body w.0, packed_most v c.kind, fields_most v cards w.1)
