-- Fields without spares and the bodies that have them: how many bytes each has, and that a body gives back the fields that it was made of.
use mathlib.Core.Path.{◌≡◌, sym, ap, ap₂, ◌∙◌}
use mathlib.Core.List.{List, ◌++◌, append_assoc}
use Prim.Native.Nat.{ℕ, ◌+◌, ◌-◌, ◌≤◌}
use native.Mathlib.Omega.{arith}
use lib.ListN.{length, take, drop, length-append, length-drop, take-append-drop}
use lib.Seq.{length-take-le, take_all, take_at, drop_at, drop-drop}
use Rattle.spelled.proofs.Length.{length_bytes}
use Rattle.search.specs.Answers as answer
use Rattle.conic.specs.Said as conic
use Rattle.card.specs.declared.Kind.{Kind}
use Rattle.card.specs.declared.Kind.TheVariants as kind
use Rattle.version.specs.declared.Version.{Version}
use Rattle.version.specs.Version.{tag_size}
use Rattle.version.proofs.Sizes.{tag_most}
use Rattle.card.specs.Fields.{problem_size, spare_size, question_size, largest_answer, answer_size, size_of, own_size, rest_size, packed_size, largest_fields}
use Rattle.card.specs.Made.{spare, body_of, rest_from, fields_in, body_from, solved_numbers, kind_for, answer_for, card_for}
use Rattle.card.proofs.Numbers.{length_numbers}

-- a problem has its bytes, and so has the answer behind it
given_size_lem : (v : Version) (k : Kind) (f : List ℕ) → length f ≡ packed_size v k → length (take problem_size f) ≡ problem_size
given_size_lem v k f h = length-take-le problem_size f (omega (arith, h))

rest_size_lem : (v : Version) (k : Kind) (f : List ℕ) → length f ≡ packed_size v k → length (drop problem_size f) ≡ rest_size v k
rest_size_lem v k f h = rw (length-drop problem_size f, h) (omega arith)

pub body_size : (v : Version) (k : Kind) (given rest : List ℕ) → length given ≡ problem_size → length rest ≡ rest_size v k → length (body_of k given rest) ≡ size_of v k
unfolding answer_size own_size
body_size v kind.Solved given rest g a = simp (length-append, length_bytes) (omega (arith, g, a))
body_size v kind.Refused given rest g a = simp (length-append, length_bytes) (omega (arith, g, a))
body_size v kind.Transfer given rest g a = simp length-append (omega (arith, g, a))

pub length_body : (v : Version) (k : Kind) (f : List ℕ) → length f ≡ packed_size v k → length (body_from k f) ≡ size_of v k
length_body v k f h = body_size v k (take problem_size f) (drop problem_size f) (given_size_lem v k f h) (rest_size_lem v k f h)

-- a body has room for the rest, which stands behind the problem
pub rest_inside : (v : Version) (k : Kind) → rest_from k + rest_size v k ≤ size_of v k
unfolding answer_size own_size rest_from
rest_inside v kind.Solved = omega arith
rest_inside v kind.Refused = omega arith
rest_inside v kind.Transfer = omega arith

pub rest_behind : (k : Kind) → problem_size ≤ rest_from k
unfolding rest_from
rest_behind kind.Solved = omega arith
rest_behind kind.Refused = omega arith
rest_behind kind.Transfer = omega arith

-- and no card's fields have more bytes than a solved one's in version 2
pub own_most : (k : Kind) → own_size k ≤ largest_answer
unfolding answer_size own_size
own_most kind.Solved = omega arith
own_most kind.Refused = omega arith
own_most kind.Transfer = omega arith

pub packed_most : (v : Version) (k : Kind) → packed_size v k ≤ largest_fields
packed_most v k = omega (arith, own_most k, tag_most v)

pub length_fields : (v : Version) (k : Kind) (body : List ℕ) → length body ≡ size_of v k → length (fields_in v k body) ≡ packed_size v k
length_fields v k body h =
    let first : length (take problem_size body) ≡ problem_size = length-take-le problem_size body (omega (arith, h, rest_inside v k, rest_behind k)) in
    let left : length (drop (rest_from k) body) ≡ length body - rest_from k = length-drop (rest_from k) body in
    let second : length (take (rest_size v k) (drop (rest_from k) body)) ≡ rest_size v k = length-take-le (rest_size v k) (drop (rest_from k) body) (omega (arith, h, left, rest_inside v k)) in
    length-append (take problem_size body) _ ∙ ap₂ ◌+◌ first second

-- the rest stands where it begins: past what a body begins with, and past its spare
past_spare : (given rest : List ℕ) → length given ≡ problem_size → drop question_size (given ++ (spare ++ rest)) ≡ rest
past_spare given rest g = sym (drop-drop spare_size problem_size (given ++ (spare ++ rest))) ∙ ap (drop spare_size) (drop_at given (spare ++ rest) problem_size g) ∙ drop_at spare rest spare_size (length_bytes spare_size 0)

behind : (v : Version) (k : Kind) (given rest : List ℕ) → length given ≡ problem_size → length rest ≡ rest_size v k → take (rest_size v k) (drop (rest_from k) (body_of k given rest)) ≡ rest
unfolding rest_from
behind v kind.Solved given rest g a = ap (take (rest_size v kind.Solved)) (past_spare given rest g) ∙ take_all (rest_size v kind.Solved) rest (omega (arith, a))
behind v kind.Refused given rest g a = ap (take (rest_size v kind.Refused)) (past_spare given (rest ++ spare) g) ∙ take_at rest spare (rest_size v kind.Refused) a
behind v kind.Transfer given rest g a = ap (take (rest_size v kind.Transfer)) (drop_at given rest problem_size g) ∙ take_all (rest_size v kind.Transfer) rest (omega (arith, a))

begins : (k : Kind) (given rest : List ℕ) → length given ≡ problem_size → take problem_size (body_of k given rest) ≡ given
begins kind.Solved given rest g = take_at given (spare ++ rest) problem_size g
begins kind.Refused given rest g = take_at given (spare ++ (rest ++ spare)) problem_size g
begins kind.Transfer given rest g = take_at given rest problem_size g

-- a body gives back problem and rest
pub fields_of_body : (v : Version) (k : Kind) (given rest : List ℕ) → length given ≡ problem_size → length rest ≡ rest_size v k → fields_in v k (body_of k given rest) ≡ given ++ rest
fields_of_body v k given rest g a = ap₂ ◌++◌ (begins k given rest g) (behind v k given rest g a)

pub fields_back : (v : Version) (k : Kind) (f : List ℕ) → length f ≡ packed_size v k → fields_in v k (body_from k f) ≡ f
fields_back v k f h = fields_of_body v k (take problem_size f) (drop problem_size f) (given_size_lem v k f h) (rest_size_lem v k f h) ∙ take-append-drop problem_size f

-- and problem and rest give the body
pub body_back : (k : Kind) (given rest : List ℕ) → length given ≡ problem_size → body_from k (given ++ rest) ≡ body_of k given rest
body_back k given rest g = ap₂ (body_of k) (take_at given rest problem_size g) (drop_at given rest problem_size g)

-- ---- the card that a problem's bytes, those of object and epoch, and an answer make

pub answer_length : (said : conic.Said) → length (answer_for said) ≡ own_size (kind_for said)
unfolding answer_size own_size
answer_length (answer.solved x n state) = length_numbers (solved_numbers x state)
answer_length (answer.refused k n) = length_bytes 4 k
answer_length (answer.refused_with_bracket k n lo hi) = length_bytes 4 k

module _ (v : Version) (given tag : List ℕ) (sized : length given ≡ problem_size) (tag-sized : length tag ≡ tag_size v) (said : conic.Said) where
  made_rest : length (tag ++ answer_for said) ≡ rest_size v (kind_for said)
  made_rest = length-append tag (answer_for said) ∙ omega (arith, tag-sized, answer_length said)

  pub made_size : length (card_for given tag said).body ≡ size_of v (card_for given tag said).kind
  made_size = body_size v (kind_for said) given (tag ++ answer_for said) sized made_rest

  -- the bytes of its fields
  pub made_long : length (given ++ (tag ++ answer_for said)) ≡ packed_size v (kind_for said)
  made_long = length-append given (tag ++ answer_for said) ∙ ap₂ ◌+◌ sized made_rest

  pub made_begins : take problem_size (card_for given tag said).body ≡ given
  made_begins = begins (kind_for said) given (tag ++ answer_for said) sized

  -- object and epoch stand behind the spare
  pub made_tag : take (tag_size v) (drop question_size (card_for given tag said).body) ≡ tag
  made_tag = go said
    where
      go : (s : conic.Said) → take (tag_size v) (drop question_size (card_for given tag s).body) ≡ tag
      go (answer.solved x n state) = ap (take (tag_size v)) (past_spare given _ sized) ∙ take_at tag _ (tag_size v) tag-sized
      go (answer.refused k n) = ap (take (tag_size v)) (past_spare given _ sized ∙ append_assoc tag _ spare) ∙ take_at tag _ (tag_size v) tag-sized
      go (answer.refused_with_bracket k n lo hi) = ap (take (tag_size v)) (past_spare given _ sized ∙ append_assoc tag _ spare) ∙ take_at tag _ (tag_size v) tag-sized
