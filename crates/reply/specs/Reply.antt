-- What a program that makes a deck writes: RULES, Writing a deck 8. Definitions only.
use Rattle.std.specs.Prelude.{ℕ, List, [], ◌∷◌}
use Rattle.pieces.specs.Pieces.{joined, put_in, end_in}
use Rattle.text.specs.Text.{text, count}
use Rattle.rows.specs.Rows.{Checked, pass, refuse}
use Rattle.contents.specs.Contents.{Deck, largest_deck}
use Rattle.layout.specs.Written.{deck_for}

-- the line of a refused deck
abbrev pub refused_line : ℕ → List ℕ
refused_line k = joined (text "deck" ∷ count k ∷ text "\n" ∷ [])

-- a page with a deck of so many bytes in front, or with the line of the refusal; and where that ends
abbrev pub page_after : Checked ℕ → (page : List ℕ) → List ℕ
page_after (pass size) page = page
page_after (refuse k) page = put_in page 0 (refused_line k)

abbrev pub end_after : Checked ℕ → (page : List ℕ) → ℕ
end_after (pass size) page = size
end_after (refuse k) page = end_in page 0 (refused_line k)

-- the deck, or the line of its refusal
abbrev pub replied : Checked (List ℕ) → List ℕ
replied (pass deck) = deck
replied (refuse k) = refused_line k

-- what is replied for a deck, or for the refusal that there is in its place: there is room for any deck
abbrev pub reply_of : Checked Deck → List ℕ
reply_of m = replied (deck_for m largest_deck)
