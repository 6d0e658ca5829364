-- A deck taken apart: RULES, Writing a deck 6. Definitions only.
use Rattle.std.specs.Prelude.{ℕ, ◌&&◌, List, ◌++◌, leb, length, drop}
use Rattle.rows.specs.Rows.{Checked, pass, refuse, must, onward}
use Rattle.version.specs.declared.Version.{Version}
use Rattle.contents.specs.Contents.{Deck, deck_in}
use Rattle.layout.specs.Packed.{kinds_of, fields_of}

-- the kinds and the fields of a deck's cards
abbrev pub kinds_taken : Deck → List ℕ
kinds_taken d = kinds_of d.cards

abbrev pub fields_taken : Deck → List ℕ
fields_taken d = fields_of d.version d.cards

-- a deck, or its refusal; 41 where a list has too little room for the kinds of its cards or their fields
unfoldable pub apart_of : (deck : List ℕ) → (places room : ℕ) → Checked Deck
apart_of deck places room =
    onward (deck_in deck) (λ d.
    must (leb (length d.cards) places && leb (length (fields_taken d)) room) 41
    (pass d))

-- its version, how many cards there are, and how many bytes of fields
unfoldable pub sizes_of : Checked Deck → Checked (Version × ℕ × ℕ)
sizes_of m = onward m (λ d. pass (d.version, length d.cards, length (fields_taken d)))

-- what is taken out stands from the first place on, and the places behind keep their values. What is refused alters nothing
abbrev pub with_taken : (taken : Deck → List ℕ) → Checked Deck → (list : List ℕ) → List ℕ
with_taken taken (pass d) list = taken d ++ drop (length (taken d)) list
with_taken taken (refuse k) list = list
