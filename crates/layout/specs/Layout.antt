-- The bytes of a deck, from its version and its cards: RULES, The deck. Definitions only.
use Rattle.std.specs.Prelude.{ℕ, ◌+◌, cond, List, [], ◌∷◌, ◌++◌, map, leb, length}
use Rattle.spelled.specs.Spelled.{bytes_of}
use Rattle.rows.specs.Rows.{Checked, pass, refuse}
use Rattle.version.specs.declared.Version.{Version}
use Rattle.version.specs.Version.{version_number}
use Rattle.card.specs.declared.Kind.{Kind}
use Rattle.card.specs.Fields.{Card, kind_of, kind_number, size_of}
use Rattle.contents.specs.Contents.{Deck, entry_at, most_cards}

-- The deck 2: the entry of a card whose body stands at index `at`: kind, offset, length
abbrev pub entry_for : Version → Kind → (at : ℕ) → List ℕ
entry_for v kind at = bytes_of 4 (kind_number kind) ++ (bytes_of 4 at ++ bytes_of 4 (size_of v kind))

-- The deck 2 and 3: the entries of cards of these kinds, whose bodies stand one behind the other from `at` on
unfoldable pub entries_from : Version → (at : ℕ) → List Kind → List ℕ
entries_from v at [] = []
entries_from v at (kind ∷ kinds) = entry_for v kind at ++ entries_from v (at + size_of v kind) kinds

-- The deck 1 and 2: version, count, entries
abbrev pub contents_of : Version → (count : ℕ) → List Kind → List ℕ
contents_of v count kinds = bytes_of 4 (version_number v) ++ (bytes_of 4 count ++ entries_from v (entry_at count) kinds)

-- The deck 3: the bodies, without gaps
unfoldable pub bodies_of : List Card → List ℕ
bodies_of [] = []
bodies_of (c ∷ cards) = c.body ++ bodies_of cards

-- The deck 1 to 3: the contents, then the bodies
abbrev pub kinds_in : List Card → List Kind
kinds_in cards = map (λ (c : Card). c.kind) cards

unfoldable pub deck_of : Deck → List ℕ
deck_of d = contents_of d.version (length d.cards) (kinds_in d.cards) ++ bodies_of d.cards

-- the kinds that numbers name, up to the first that names none
abbrev up_to : Checked Kind → List Kind → List Kind
up_to (pass kind) rest = kind ∷ rest
up_to (refuse k) rest = []

unfoldable pub named_in : (numbers : List ℕ) → List Kind
named_in [] = []
named_in (n ∷ numbers) = up_to (kind_of n) (named_in numbers)

-- the contents of a deck whose cards have kinds of these numbers; of more than 256 there is no deck, and these are empty
unfoldable pub contents_for : Version → (numbers : List ℕ) → List ℕ
contents_for v numbers = cond (leb (length numbers) most_cards) (contents_of v (length numbers) (named_in numbers)) []
