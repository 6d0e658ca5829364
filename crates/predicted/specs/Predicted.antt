-- The card that a problem makes: RULES, Writing a deck 2. Definitions only.
use Rattle.std.specs.Prelude.{ℕ, List, [], ◌∷◌, ◌++◌, leb, length, take, drop}
use Rattle.pieces.specs.declared.Page.{Page}
use Rattle.pieces.specs.Page.{written}
use Rattle.spelled.specs.Spelled.{bytes_of}
use Rattle.words.specs.Words.{value_at, words_bytes}
use Rattle.rows.specs.Rows.{Checked, pass, refuse, must, onward}
use Rattle.conic.specs.Said as conic
use Rattle.kepler.specs.Kepler.{kepler_of}
use Rattle.version.specs.declared.Version.{Version}
use Rattle.card.specs.declared.Kind.{Kind}
use Rattle.card.specs.Fields as card
use Rattle.card.specs.Fields.{problem_size, given_size, problem_of}
use Rattle.card.specs.Made.{body_of, answer_for, card_for}
use Rattle.predicted.specs.declared.Card.{Card}

-- the card of a problem, from its bytes, behind which object and epoch may stand: Kepler is run on it
abbrev pub card_of : (given : List ℕ) → card.Card
card_of given = card_for (take problem_size given) (drop problem_size given) (kepler_of (problem_of given))

-- the card of the problem with which bytes begin; 46 where they end inside it
unfoldable pub first_card : Version → (problems : List ℕ) → Checked card.Card
first_card v problems =
    must (leb (given_size v) (length problems)) 46
    (pass (card_of (take (given_size v) problems)))

-- the kind of a card whose body is put into a page
unfoldable pub kind_placed : Checked card.Card → Checked Kind
kind_placed m = onward m (λ c. pass c.kind)

-- and the page afterwards. What is refused alters nothing
abbrev pub with_body : Page → Checked card.Card → Page
with_body page (pass c) = written page c.body
with_body page (refuse k) = page

-- the words of a problem's eight numbers
abbrev pub words_in : (given : List ℕ) → List ℕ
words_in given = value_at 8 given 0 ∷ value_at 8 given 8 ∷ value_at 8 given 16 ∷ value_at 8 given 24 ∷ value_at 8 given 32 ∷ value_at 8 given 40 ∷ value_at 8 given 48 ∷ value_at 8 given 56 ∷ []

-- the bytes of the problem that a card struct holds
abbrev pub given_in : Card → List ℕ
given_in c = words_bytes c.given ++ bytes_of 4 c.problem.limit

-- and the fields that it has on a card, without spares, with the bytes of object and epoch
abbrev pub fields_held : Card → (tag : List ℕ) → List ℕ
fields_held c tag = given_in c ++ (tag ++ answer_for (conic.said c.outcome))

-- and its body, as a card of this kind
abbrev pub body_held : Kind → Card → (tag : List ℕ) → List ℕ
body_held kind c tag = body_of kind (given_in c) (tag ++ answer_for (conic.said c.outcome))
