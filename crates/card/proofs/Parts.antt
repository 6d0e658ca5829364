-- What a verdict reads of a card, from its body: the same in either version, whatever object and epoch are; and of the cards that are made, the
-- problem with its spare, or the transfer, and the answer.
use mathlib.Core.Path.{◌≡◌, sym, ap, ap₂, ◌∙◌}
use mathlib.Core.List.{List, ◌++◌, append_assoc}
use Prim.Native.Nat.{ℕ, ◌+◌, ◌≤◌}
use native.Mathlib.Omega.{arith}
use lib.ListN.{length, take, drop, length-append, length-drop}
use lib.Seq.{take_all, take_at, drop_at, drop-drop, take-append-le, drop-append-le}
use Rattle.spelled.proofs.Length.{length_bytes}
use Rattle.words.specs.Words.{value_at}
use Rattle.words.proofs.Standing.{value_at_part}
use Rattle.version.specs.declared.Version.{Version}
use Rattle.version.specs.declared.Version.TheVariants as version
use Rattle.version.specs.Version.{tag_size}
use Rattle.card.specs.declared.Kind.{Kind}
use Rattle.card.specs.declared.Kind.TheVariants as kind
use Rattle.card.specs.Fields.{problem_size, question_size, answer_size, size_of, answer_at, tag_at, parts, parts_of}
use Rattle.card.specs.Made.{spare, body_of}
use Rattle.card.proofs.Sizes.{answer_inside}

-- ---- object and epoch are not read

-- where question, object and epoch stand in front, what is behind is read behind them
behind : (v : Version) (front tag rest : List ℕ) → length front ≡ question_size → length tag ≡ tag_size v → drop (question_size + tag_size v) (front ++ (tag ++ rest)) ≡ rest
behind v front tag rest f t = sym (drop-drop (tag_size v) question_size (front ++ (tag ++ rest))) ∙ ap (drop (tag_size v)) (drop_at front (tag ++ rest) question_size f) ∙ drop_at tag rest (tag_size v) t

in_front : (v : Version) (front tag rest : List ℕ) (n : ℕ) → length front ≡ question_size → length tag ≡ tag_size v
    → parts (take question_size (front ++ (tag ++ rest))) (take n (drop (question_size + tag_size v) (front ++ (tag ++ rest)))) ≡ parts front (take n rest)
in_front v front tag rest n f t = ap₂ parts (take_at front (tag ++ rest) question_size f) (ap (take n) (behind v front tag rest f t))

-- where question and answer stand in front of all else
all_in_front : (front rest : List ℕ) (n : ℕ) → question_size + n ≤ length front → parts (take question_size (front ++ rest)) (take n (drop question_size (front ++ rest))) ≡ parts (take question_size front) (take n (drop question_size front))
all_in_front front rest n long =
    let room : n ≤ length (drop question_size front) = rw (length-drop question_size front) (omega arith) in
    ap₂ parts (take-append-le question_size front rest (omega arith)) (ap (take n) (drop-append-le question_size front rest (omega arith)) ∙ take-append-le n (drop question_size front) rest room)

-- a body of version 2 has the parts of the body of version 1 with the same other bytes
pub untagged : (k : Kind) (front tag rest : List ℕ) → length front ≡ tag_at k → length tag ≡ tag_size version.Two → parts_of version.Two k (front ++ (tag ++ rest)) ≡ parts_of version.One k (front ++ rest)
unfolding tag_at answer_at tag_size
untagged kind.Solved front tag rest f t = in_front version.Two front tag rest (answer_size kind.Solved) f t ∙ sym (ap₂ parts (take_at front rest question_size f) (ap (take (answer_size kind.Solved)) (drop_at front rest question_size f)))
untagged kind.Refused front tag rest f t = in_front version.Two front tag rest (answer_size kind.Refused) f t ∙ sym (ap₂ parts (take_at front rest question_size f) (ap (take (answer_size kind.Refused)) (drop_at front rest question_size f)))
untagged kind.Transfer front tag rest f t = all_in_front front (tag ++ rest) (answer_size kind.Transfer) (omega (arith, f)) ∙ sym (all_in_front front rest (answer_size kind.Transfer) (omega (arith, f)))

-- ---- a body that has its size: what is read in its parts stands in it

module _ (v : Version) (k : Kind) (body : List ℕ) (sized : length body ≡ size_of v k) where
  pub question_reads : (n at : ℕ) → at + n ≤ question_size → value_at n (parts_of v k body).question at ≡ value_at n body at
  question_reads n at h = value_at_part n body 0 question_size at (omega (arith, sized)) h ∙ ap (value_at n body) (omega arith)

  pub answer_reads : (n at : ℕ) → at + n ≤ answer_size k → value_at n (parts_of v k body).answer at ≡ value_at n body (answer_at v k + at)
  answer_reads n at h = value_at_part n body (answer_at v k) (answer_size k) at (omega (arith, sized, answer_inside v k)) h

-- ---- the cards that are made, in either version

module _ (v : Version) (tag : List ℕ) (tag-sized : length tag ≡ tag_size v) where
  -- a problem with its spare
  module _ (given : List ℕ) (sized : length given ≡ problem_size) where
    asked : length (given ++ spare) ≡ question_size
    asked = length-append given spare ∙ ap₂ ◌+◌ sized (length_bytes 4 0)

    pub solved_parts : (answer : List ℕ) → length answer ≡ answer_size kind.Solved → parts_of v kind.Solved (body_of kind.Solved given (tag ++ answer)) ≡ parts (given ++ spare) answer
    unfolding answer_at
    solved_parts answer a =
        ap (parts_of v kind.Solved) (sym (append_assoc given spare (tag ++ answer)))
        ∙ in_front v (given ++ spare) tag answer (answer_size kind.Solved) asked tag-sized
        ∙ ap (parts (given ++ spare)) (take_all (answer_size kind.Solved) answer (omega (arith, a)))

    pub refused_parts : (number : List ℕ) → length (number ++ spare) ≡ answer_size kind.Refused → parts_of v kind.Refused (body_of kind.Refused given (tag ++ number)) ≡ parts (given ++ spare) (number ++ spare)
    unfolding answer_at
    refused_parts number a =
        ap (λ (rest : List ℕ). parts_of v kind.Refused (given ++ (spare ++ rest))) (append_assoc tag number spare)
        ∙ ap (parts_of v kind.Refused) (sym (append_assoc given spare (tag ++ (number ++ spare))))
        ∙ in_front v (given ++ spare) tag (number ++ spare) (answer_size kind.Refused) asked tag-sized
        ∙ ap (parts (given ++ spare)) (take_all (answer_size kind.Refused) (number ++ spare) (omega (arith, a)))

  -- a transfer
  pub transfer_parts : (given answer : List ℕ) → length given ≡ question_size → length answer ≡ answer_size kind.Transfer → parts_of v kind.Transfer (given ++ (answer ++ tag)) ≡ parts given answer
  unfolding answer_at
  transfer_parts given answer g a = ap₂ parts (take_at given (answer ++ tag) question_size g) (ap (take (answer_size kind.Transfer)) (drop_at given (answer ++ tag) question_size g) ∙ take_at answer tag (answer_size kind.Transfer) a)
