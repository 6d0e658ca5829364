-- Cards as a list of kinds and their fields without spares: RULES, Writing a deck. Definitions only.
use Rattle.std.specs.Prelude.{ℕ, List, [], ◌∷◌, ◌++◌, map, leb, eqb, length, take, drop}
use Rattle.rows.specs.Rows.{Checked, pass, must, onward}
use Rattle.version.specs.declared.Version.{Version}
use Rattle.version.specs.Version.{version_given}
use Rattle.card.specs.declared.Kind.{Kind}
use Rattle.card.specs.Fields.{Card, kind_of, kind_number, packed_size}
use Rattle.card.specs.Made.{fields_in, body_from}
use Rattle.contents.specs.Contents.{Deck, most_cards}

-- Writing a deck 6: the kinds and the fields of cards
abbrev pub kinds_of : List Card → List ℕ
kinds_of cards = map (λ (c : Card). kind_number c.kind) cards

unfoldable pub fields_of : Version → List Card → List ℕ
fields_of v [] = []
fields_of v (c ∷ cards) = fields_in v c.kind c.body ++ fields_of v cards

-- Writing a deck 3 and 4: the card that has these fields, with spares that are 0
abbrev pub packed_card : Kind → (fields : List ℕ) → Card
packed_card kind fields = record { kind = kind; body = body_from kind fields }

-- the cards with these kinds and these fields, card by card: 34 for a kind that is none, 46 where the bytes end inside a card; and 46 for bytes
-- that are left over behind the last
unfoldable pub packed_cards : Version → (kinds fields : List ℕ) → Checked (List Card)
packed_cards v [] fields = must (eqb (length fields) 0) 46 (pass [])
packed_cards v (n ∷ kinds) fields =
    onward (kind_of n) (λ kind.
    must (leb (packed_size v kind) (length fields)) 46
    (onward (packed_cards v kinds (drop (packed_size v kind) fields)) (λ rest.
    pass (packed_card kind (take (packed_size v kind) fields) ∷ rest))))

-- the deck that has them: 40 first, where there are more than 256
unfoldable pub packed_deck : Version → (kinds fields : List ℕ) → Checked Deck
packed_deck v kinds fields =
    must (leb (length kinds) most_cards) 40
    (onward (packed_cards v kinds fields) (λ cards.
    pass (record { version = v; cards = cards })))

-- Writing a deck 1: and before that 42, of version and form
unfoldable pub finished_deck : (number form : ℕ) → (kinds fields : List ℕ) → Checked Deck
finished_deck number form kinds fields = onward (version_given number form) (λ v. packed_deck v kinds fields)

-- Writing a deck 7: a card whose spares are 0, whatever they were
abbrev pub cleared : Version → Card → Card
cleared v c = packed_card c.kind (fields_in v c.kind c.body)
