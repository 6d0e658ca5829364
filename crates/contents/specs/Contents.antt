-- The contents of a deck, and its version and cards: RULES, The deck. Definitions only.
use Rattle.std.specs.Prelude.{ℕ, zero, suc, ◌+◌, ◌*◌, List, [], ◌∷◌, eqb, leb, length, take, drop}
use Rattle.words.specs.Words.{value_at}
use Rattle.rows.specs.Rows.{Checked, pass, refuse, must, onward}
use Rattle.version.specs.declared.Version.{Version}
use Rattle.version.specs.Version.{version_of}
use Rattle.card.specs.declared.Kind.{Kind}
use Rattle.card.specs.Fields.{Card, kind_of, size_of, largest_body}

-- a deck: its version, and its cards in order
pub record Deck : Type 0 where
  pub version : Version
  pub cards : List Card

-- The deck 1 to 3: version and count, then an entry of three u32 for each card: where entry i begins, and the bodies after the last one
abbrev pub header_size : ℕ
header_size = 8

abbrev pub entry_size : ℕ
entry_size = 12

abbrev pub entry_at : ℕ → ℕ
entry_at i = header_size + entry_size * i

-- The deck 1: the most cards, and the two numbers that a deck begins with
abbrev pub most_cards : ℕ
most_cards = 256

abbrev pub version_word : List ℕ → ℕ
version_word deck = value_at 4 deck 0

abbrev pub count_of : List ℕ → ℕ
count_of deck = value_at 4 deck 4

-- The deck 2: the three fields of entry i; 34 where the kind is unknown
abbrev pub kind_at : List ℕ → (i : ℕ) → Checked Kind
kind_at deck i = kind_of (value_at 4 deck (entry_at i))

abbrev pub offset_at : List ℕ → (i : ℕ) → ℕ
offset_at deck i = value_at 4 deck (entry_at i + 4)

abbrev pub length_at : List ℕ → (i : ℕ) → ℕ
length_at deck i = value_at 4 deck (entry_at i + 8)

-- entry i, where the last body ended at `at`: 34, 35, 36, 37, in this order
unfoldable pub entry_in : Version → List ℕ → (i at : ℕ) → Checked Kind
entry_in v deck i at =
    onward (kind_at deck i) (λ kind.
    must (eqb (length_at deck i) (size_of v kind)) 35
    (must (eqb (offset_at deck i) at) 36
    (must (leb (at + size_of v kind) (length deck)) 37
    (pass kind))))

-- the cards from entry i on, `left` of them. The deck 3: each body stands where the last one ended, from `at` on. After the last entry: 38
unfoldable pub cards_from : Version → List ℕ → (left i at : ℕ) → Checked (List Card)
cards_from v deck zero i at = must (eqb at (length deck)) 38 (pass [])
cards_from v deck (suc left) i at =
    onward (entry_in v deck i at) (λ kind.
    onward (cards_from v deck left (i + 1) (at + size_of v kind)) (λ rest.
    pass (record { kind = kind; body = take (size_of v kind) (drop at deck) } ∷ rest)))

-- 30, 31, 32, 33, then entry by entry. The deck 3: the first body stands at byte 8 + 12*count
unfoldable pub deck_in : List ℕ → Checked Deck
deck_in deck =
    let count = count_of deck in
    must (leb header_size (length deck)) 30
    (onward (version_of (version_word deck)) (λ v.
    must (leb count most_cards) 32
    (must (leb (entry_at count) (length deck)) 33
    (onward (cards_from v deck count 0 (entry_at count)) (λ cards.
    pass (record { version = v; cards = cards }))))))

-- the version, and how many cards there are, or the refusal
abbrev pub counting : Version → (count : ℕ) → Checked (List Card) → Checked (Version × ℕ)
counting v count m = onward m (λ cards. pass (v, count))

abbrev pub counted_in : List ℕ → Checked (Version × ℕ)
counted_in deck = onward (deck_in deck) (λ d. pass (d.version, count_of deck))

-- contents pass where they come to cards
abbrev pub Passes : Checked (List Card) → Type 0
Passes (pass cards) = Unit
Passes (refuse k) = ⊥

-- The deck 8: the bytes of the largest deck; and The check program's listing 1: what is read of a deck, one byte more
abbrev pub largest_deck : ℕ
largest_deck = header_size + most_cards * (entry_size + largest_body)

abbrev pub read_of_a_deck : ℕ
read_of_a_deck = largest_deck + 1
