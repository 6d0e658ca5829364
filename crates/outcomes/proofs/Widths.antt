-- How long an outcome's line can be.
use Prim.Native.Nat.{ℕ, ◌≤◌}
use mathlib.Core.List.{List}
use native.Mathlib.Omega.{arith}
use lib.ListN.{length, length-append}
use Rattle.text.proofs.Length.{length_count, length_number}
use Rattle.vectors.specs.declared.Vector.{Vector}
use Rattle.search.specs.Answers.{Answer, solved, refused, refused_with_bracket}
use Rattle.conic.specs.declared.State.{State}
use Rattle.conic.specs.Said as conic
use Rattle.lambert.specs.Said as lambert
use Rattle.outcomes.specs.Outcomes.{vector, state, answer_line, outcome_line, transfer_line, most_outcome}

-- the numbers of what was found
vector_most : (a : Vector) → length (vector a) ≤ 102
vector_most a = simp (length-append, length_number a.x, length_number a.y, length_number a.z) (omega arith)

state_most : (s : State) → length (state s) ≤ 102
state_most s = simp (length-append, length_number s.r.x, length_number s.r.y, length_number s.r.z, length_number s.v.x, length_number s.v.y, length_number s.v.z) (omega arith)

-- the line of an answer, whatever was found
answer_most : {A : Type 0} (shown : A → List ℕ) → ((a : A) → length (shown a) ≤ 102) → (s : Answer A) → length (answer_line shown s) ≤ most_outcome
answer_most shown few (solved x n found) = simp (length-append, length_number x) (omega (arith, length_count n, few found))
answer_most shown few (refused k n) = simp length-append (omega (arith, length_count k, length_count n))
answer_most shown few (refused_with_bracket k n lo hi) = simp (length-append, length_number lo, length_number hi) (omega (arith, length_count k, length_count n))

pub outcome_most : (s : conic.Said) → length (outcome_line s) ≤ most_outcome
outcome_most s = answer_most state state_most s

pub transfer_most : (s : lambert.Said) → length (transfer_line s) ≤ most_outcome
transfer_most s = answer_most vector vector_most s
