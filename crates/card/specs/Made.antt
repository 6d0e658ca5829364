-- A card's body from its fields, and the card that a problem and Kepler's answer make: RULES, The deck and Writing a deck. A problem is given as
-- the 68 bytes that stand before the spare, and object and epoch as theirs. Definitions only.
use Rattle.std.specs.Prelude.{ℕ, List, [], ◌∷◌, ◌++◌, map, take, drop, Float}
use Rattle.exact.specs.Numbers.{word_of}
use Rattle.spelled.specs.Spelled.{bytes_of}
use Rattle.words.specs.Words.{words_bytes}
use Rattle.vectors.specs.declared.Vector.{Vector}
use Rattle.arc.specs.declared.Way.{Way}
use Rattle.arc.specs.declared.Way.TheVariants as way
use Rattle.arc.specs.declared.Transfer.{Transfer}
use Rattle.conic.specs.declared.State.{State}
use Rattle.conic.specs.declared.Problem.{Problem}
use Rattle.search.specs.Answers as answer
use Rattle.conic.specs.Said as conic
use Rattle.card.specs.declared.Kind.{Kind}
use Rattle.card.specs.declared.Kind.TheVariants as kind
use Rattle.version.specs.declared.Version.{Version}
use Rattle.card.specs.Fields.{Card, problem_size, spare_size, question_size, rest_size}

-- numbers as words of eight bytes
abbrev pub numbers_bytes : List Float → List ℕ
numbers_bytes l = words_bytes (map word_of l)

-- The deck 4, before the spare: eight numbers, and the limit
abbrev pub problem_bytes : Problem → List ℕ
problem_bytes p = numbers_bytes (conic.problem_numbers p) ++ bytes_of 4 p.limit

-- The deck 7: the number of a way, and a transfer's bytes: what every body begins with, then the way
abbrev pub way_number : Way → ℕ
way_number way.Short = 0
way_number way.Long = 1

abbrev pub as_problem : Transfer → Problem
as_problem q = record { mu = q.mu; r = q.r1; v = q.r2; dt = q.dt; limit = q.limit }

abbrev pub transfer_bytes : Transfer → List ℕ
transfer_bytes q = problem_bytes (as_problem q) ++ bytes_of 4 (way_number q.way)

-- a spare: bytes that are 0
abbrev pub spare : List ℕ
spare = bytes_of spare_size 0

-- The deck 4 to 7: a body: what every body begins with, the spare, the rest, and the last spare of a refused card. A transfer has no spare, and its
-- way counts with the rest. Object and epoch, where there are any, stand in the rest, in front of the answer, and on a transfer behind it
abbrev pub body_of : Kind → (given rest : List ℕ) → List ℕ
body_of kind.Solved given rest = given ++ (spare ++ rest)
body_of kind.Refused given rest = given ++ (spare ++ (rest ++ spare))
body_of kind.Transfer given rest = given ++ rest

-- The deck 4 to 7: where the rest begins: behind the spare, and where there is none, behind what every body begins with
unfoldable pub rest_from : Kind → ℕ
rest_from kind.Solved = question_size
rest_from kind.Refused = question_size
rest_from kind.Transfer = problem_size

-- Writing a deck 3: the fields in a body, without its spares; and the body that has these fields
abbrev pub fields_in : Version → Kind → (body : List ℕ) → List ℕ
fields_in v kind body = take problem_size body ++ take (rest_size v kind) (drop (rest_from kind) body)

abbrev pub body_from : Kind → (fields : List ℕ) → List ℕ
body_from kind fields = body_of kind (take problem_size fields) (drop problem_size fields)

-- The deck 5: x, position and velocity
abbrev pub solved_numbers : Float → State → List Float
solved_numbers x state = x ∷ state.r.x ∷ state.r.y ∷ state.r.z ∷ state.v.x ∷ state.v.y ∷ state.v.z ∷ []

abbrev pub solved_answer : Float → State → List ℕ
solved_answer x state = numbers_bytes (solved_numbers x state)

abbrev pub solved_body : (given tag : List ℕ) → Float → State → List ℕ
solved_body given tag x state = body_of kind.Solved given (tag ++ solved_answer x state)

-- The deck 7: z and velocity; and the body of a solved transfer, from the transfer's bytes, with object and epoch at its end
abbrev pub transfer_numbers : Float → Vector → List Float
transfer_numbers z v = z ∷ v.x ∷ v.y ∷ v.z ∷ []

abbrev pub transfer_body : (given tag : List ℕ) → Float → Vector → List ℕ
transfer_body given tag z v = given ++ (numbers_bytes (transfer_numbers z v) ++ tag)

-- The deck 6: the refusal's number
abbrev pub refused_body : (given tag : List ℕ) → ℕ → List ℕ
refused_body given tag k = body_of kind.Refused given (tag ++ bytes_of 4 k)

-- Writing a deck 2: what an answer makes of a problem: the kind of the card, the answer's bytes, and the card, with the bytes of object and epoch
-- where there are any
abbrev pub kind_for : conic.Said → Kind
kind_for (answer.solved x n state) = kind.Solved
kind_for (answer.refused k n) = kind.Refused
kind_for (answer.refused_with_bracket k n lo hi) = kind.Refused

abbrev pub answer_for : conic.Said → List ℕ
answer_for (answer.solved x n state) = solved_answer x state
answer_for (answer.refused k n) = bytes_of 4 k
answer_for (answer.refused_with_bracket k n lo hi) = bytes_of 4 k

abbrev pub card_for : (given tag : List ℕ) → conic.Said → Card
card_for given tag said = record { kind = kind_for said; body = body_of (kind_for said) given (tag ++ answer_for said) }
