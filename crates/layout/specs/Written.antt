-- What writing cards into a lent buffer comes to: RULES, Writing a deck. Definitions only.
use Rattle.std.specs.Prelude.{ℕ, List, ◌++◌, leb, length, drop}
use Rattle.rows.specs.Rows.{Checked, pass, refuse, must, onward}
use Rattle.contents.specs.Contents.{Deck}
use Rattle.layout.specs.Layout.{deck_of}

-- a deck's bytes, or 41 where the buffer is shorter than it
unfoldable pub deck_for : Checked Deck → (room : ℕ) → Checked (List ℕ)
deck_for m room =
    onward m (λ d.
    must (leb (length (deck_of d)) room) 41
    (pass (deck_of d)))

-- Writing a deck 5: the deck's length, or the refusal
unfoldable pub length_for : Checked Deck → (room : ℕ) → Checked ℕ
length_for m room = onward (deck_for m room) (λ deck. pass (length deck))

-- Writing a deck 5: the deck stands from the first byte on, and the bytes behind it keep their values. What is refused alters nothing
abbrev pub with_deck : Checked (List ℕ) → (buffer : List ℕ) → List ℕ
with_deck (pass deck) buffer = deck ++ drop (length deck) buffer
with_deck (refuse k) buffer = buffer

unfoldable pub buffer_after : Checked Deck → (buffer : List ℕ) → List ℕ
buffer_after m buffer = with_deck (deck_for m (length buffer)) buffer
