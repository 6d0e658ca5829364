-- The kinds of cards and the fields of a body: RULES, The deck. Definitions only.
use Rattle.std.specs.Prelude.{ℕ, ◌+◌, ◌-◌, cond, List, eqb, take, drop, Float, Option, Some, None}
use Rattle.exact.specs.Numbers.{number_of}
use Rattle.words.specs.Words.{value_at}
use Rattle.vectors.specs.declared.Vector.{Vector}
use Rattle.conic.specs.declared.Problem.{Problem}
use Rattle.rows.specs.Rows.{Checked, pass, refuse, onward}
use Rattle.version.specs.declared.Version.{Version}
use Rattle.version.specs.declared.Version.TheVariants as version
use Rattle.version.specs.Version.{tag_size, largest_tag}
use Rattle.tag.specs.declared.Tag.{Tag}
use Rattle.tag.specs.Tag.{tag_with}
use Rattle.arc.specs.declared.Way.{Way}
use Rattle.arc.specs.declared.Way.TheVariants as way
use Rattle.arc.specs.declared.Transfer.{Transfer}
use Rattle.card.specs.declared.Kind.{Kind}
use Rattle.card.specs.declared.Kind.TheVariants as kind

-- a card: its kind, and the bytes of its body
pub record Card : Type 0 where
  pub kind : Kind
  pub body : List ℕ

-- The deck 5 to 7: the kind that 1, 2 or 3 names; another number is refused with 34
unfoldable pub kind_of : ℕ → Checked Kind
kind_of n = cond (eqb n 1) (pass kind.Solved) (cond (eqb n 2) (pass kind.Refused) (cond (eqb n 3) (pass kind.Transfer) (refuse 34)))

-- and the number that stands for a kind
unfoldable pub kind_number : Kind → ℕ
kind_number kind.Solved = 1
kind_number kind.Refused = 2
kind_number kind.Transfer = 3

-- The deck 4 and 7: the bytes with which every body begins, mu, two vectors, a time and a limit; those of a spare; and of what a card asks: both, or
-- a transfer with its way
abbrev pub problem_size : ℕ
problem_size = 68

abbrev pub spare_size : ℕ
spare_size = 4

abbrev pub question_size : ℕ
question_size = problem_size + spare_size

-- The deck 5 to 7: the bytes of what a card answers, a refused card's last spare with it; a solved card's are the most
abbrev pub largest_answer : ℕ
largest_answer = 56

unfoldable pub answer_size : Kind → ℕ
answer_size kind.Solved = largest_answer
answer_size kind.Refused = 8
answer_size kind.Transfer = 32

-- The deck 4 to 7: the bytes of a body: what it asks, what it answers, object and epoch; and of the largest
abbrev pub size_of : Version → Kind → ℕ
size_of v kind = question_size + answer_size kind + tag_size v

abbrev pub largest_body : ℕ
largest_body = question_size + largest_answer + largest_tag

-- The deck 4 and 7: where object and epoch stand, if there are any: behind the spare, and at the end of a transfer
unfoldable pub tag_at : Kind → ℕ
tag_at kind.Solved = question_size
tag_at kind.Refused = question_size
tag_at kind.Transfer = question_size + answer_size kind.Transfer

-- The deck 5 to 7: where the answer begins: behind these, and of a transfer behind the way
unfoldable pub answer_at : Version → Kind → ℕ
answer_at v kind.Solved = question_size + tag_size v
answer_at v kind.Refused = question_size + tag_size v
answer_at v kind.Transfer = question_size

-- what a verdict reads of a card: what it asks, and what it answers
pub record Parts : Type 0 where
  pub question : List ℕ
  pub answer : List ℕ

abbrev pub parts : (question answer : List ℕ) → Parts
parts question answer = record { question = question; answer = answer }

-- The deck 10: in either version they are the same
abbrev pub parts_of : Version → Kind → (body : List ℕ) → Parts
parts_of v kind body = parts (take question_size body) (take (answer_size kind) (drop (answer_at v kind) body))

-- Writing a deck 2: the bytes of a problem as it is given, with object and epoch where the version has them; and of the largest
abbrev pub given_size : Version → ℕ
given_size v = problem_size + tag_size v

abbrev pub largest_given : ℕ
largest_given = problem_size + largest_tag

-- Writing a deck 3: the bytes of a card's fields without a spare: those behind the problem but for object and epoch, where a transfer's way stands in
-- the spare's place; those with them; all; and of the largest
unfoldable pub own_size : Kind → ℕ
own_size kind.Solved = answer_size kind.Solved
own_size kind.Refused = answer_size kind.Refused - spare_size
own_size kind.Transfer = spare_size + answer_size kind.Transfer

abbrev pub rest_size : Version → Kind → ℕ
rest_size v kind = own_size kind + tag_size v

abbrev pub packed_size : Version → Kind → ℕ
packed_size v kind = problem_size + rest_size v kind

abbrev pub largest_fields : ℕ
largest_fields = problem_size + largest_answer + largest_tag

-- the number that stands in a body from index `at` on, and a vector of three
abbrev pub number_at : List ℕ → (at : ℕ) → Float
number_at body at = number_of (value_at 8 body at)

abbrev pub vector_at : List ℕ → (at : ℕ) → Vector
vector_at body at = record { x = number_at body at; y = number_at body (at + 8); z = number_at body (at + 16) }

-- The deck 4 and 10: object and epoch of a card, which version 1 does not have
unfoldable pub tag_of : Version → Kind → (body : List ℕ) → Option Tag
tag_of version.One kind body = None
tag_of version.Two kind body = Some (tag_with (value_at 4 body (tag_at kind)) (value_at 8 body (tag_at kind + 4)))

-- The deck 4: mu, r, v, dt, limit u32, spare u32
unfoldable pub problem_of : List ℕ → Problem
problem_of body = record { mu = number_at body 0; r = vector_at body 8; v = vector_at body 32; dt = number_at body 56; limit = value_at 4 body 64 }

abbrev pub spare_of : (question : List ℕ) → ℕ
spare_of question = value_at spare_size question problem_size

-- The deck 7: the way that 0 or 1 names; another number is refused with 23
unfoldable pub way_of : ℕ → Checked Way
way_of n = cond (eqb n 0) (pass way.Short) (cond (eqb n 1) (pass way.Long) (refuse 23))

-- The deck 7: mu, r1, r2, dt, limit u32 stand where a problem has mu, r, v, dt, limit; then the way, u32
abbrev pub transfer_by : List ℕ → Way → Transfer
transfer_by body w = let p = problem_of body in record { mu = p.mu; r1 = p.r; r2 = p.v; dt = p.dt; limit = p.limit; way = w }

unfoldable pub transfer_of : List ℕ → Checked Transfer
transfer_of body =
    onward (way_of (value_at 4 body problem_size)) (λ w.
    pass (transfer_by body w))

-- The deck 5: x, and where position and velocity begin in the answer
abbrev pub x_of : (answer : List ℕ) → Float
x_of answer = number_at answer 0

abbrev pub position_from : ℕ
position_from = 8

abbrev pub velocity_from : ℕ
velocity_from = position_from + 24

-- The deck 7: z; the velocity begins where a solved card has its position
abbrev pub z_of : (answer : List ℕ) → Float
z_of answer = number_at answer 0

-- The deck 6: the refusal's number and the last spare
abbrev pub refusal_of : (answer : List ℕ) → ℕ
refusal_of answer = value_at 4 answer 0

abbrev pub last_spare_of : (answer : List ℕ) → ℕ
last_spare_of answer = value_at spare_size answer 4
