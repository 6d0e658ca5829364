-- The lines of outcomes: RULES, Lines. Definitions only.
use Rattle.std.specs.Prelude.{ℕ, List, [], ◌∷◌, Float, Option, Some, None}
use Rattle.pieces.specs.Pieces.{joined}
use Rattle.text.specs.Text.{text, count, number}
use Rattle.vectors.specs.declared.Vector.{Vector}
use Rattle.search.specs.Answers.{Answer, solved, refused, refused_with_bracket}
use Rattle.conic.specs.declared.State.{State}
use Rattle.conic.specs.Said as conic
use Rattle.lambert.specs.Said as lambert

-- the three numbers of a vector, and the six of a state
abbrev pub vector : Vector → List ℕ
vector a = joined (number a.x ∷ number a.y ∷ number a.z ∷ [])

abbrev pub state : State → List ℕ
state s = joined (vector s.r ∷ vector s.v ∷ [])

-- Lines 3 and 4: a solution's line, with the numbers of what was found
abbrev pub solved_line : {A : Type 0} → (shown : A → List ℕ) → Float → ℕ → A → List ℕ
solved_line shown x n found = joined (text "solved" ∷ count n ∷ number x ∷ shown found ∷ text "\n" ∷ [])

-- Lines 3 and 4: a refusal's line, and the one that names the bracket's ends
abbrev pub refusal : (k n : ℕ) → List ℕ
refusal k n = joined (text "refused" ∷ count k ∷ count n ∷ [])

abbrev pub refused_line : (k n : ℕ) → List ℕ
refused_line k n = joined (refusal k n ∷ text "\n" ∷ [])

abbrev pub named_line : (k n : ℕ) (lo hi : Float) → List ℕ
named_line k n lo hi = joined (refusal k n ∷ number lo ∷ number hi ∷ text "\n" ∷ [])

abbrev pub unsolved_line : (k n : ℕ) → Option (Float × Float) → List ℕ
unsolved_line k n None = refused_line k n
unsolved_line k n (Some ends) = named_line k n ends.0 ends.1

-- the line of an answer, with the numbers of what was found where it is solved
abbrev pub answer_line : {A : Type 0} → (shown : A → List ℕ) → Answer A → List ℕ
answer_line shown (solved x n found) = solved_line shown x n found
answer_line shown (refused k n) = refused_line k n
answer_line shown (refused_with_bracket k n lo hi) = named_line k n lo hi

-- Lines 3: `solved COUNT X RX RY RZ VX VY VZ`, `refused NUMBER COUNT` or `refused NUMBER COUNT LO HI`
abbrev pub outcome_line : conic.Said → List ℕ
outcome_line s = answer_line state s

-- Lines 4: `solved COUNT Z VX VY VZ`, or a refusal's
abbrev pub transfer_line : lambert.Said → List ℕ
transfer_line s = answer_line vector s

-- no outcome's line has more bytes
abbrev pub most_outcome : ℕ
most_outcome = 137
