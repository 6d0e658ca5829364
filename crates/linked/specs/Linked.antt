-- What an answer is in single numbers, for callers in C. Definitions only.
use Rattle.std.specs.Prelude.{ℕ, pos, Float}
use Rattle.std.specs.Float.{nan, binary64}
use Rattle.std.specs.Float.Ieee.{neg, of_int}
use Rattle.exact.specs.Numbers.{◌⊕◌}
use Rattle.vectors.specs.declared.Vector.{Vector}
use Rattle.conic.specs.declared.State.{State}
use Rattle.rows.specs.Rows.{Checked, pass, refuse}
use Rattle.search.specs.Answers as answer
use Rattle.deck.specs.declared.Totals.{Totals}
use Rattle.deck.specs.Tally.{Residuals, absent, known}

-- x, position and velocity, added left to right
abbrev pub state_sum : Float → State → Float
state_sum x state = x ⊕ state.r.x ⊕ state.r.y ⊕ state.r.z ⊕ state.v.x ⊕ state.v.y ⊕ state.v.z

-- z and velocity, likewise
abbrev pub velocity_sum : Float → Vector → Float
velocity_sum z v = z ⊕ v.x ⊕ v.y ⊕ v.z

-- the number of an outcome's refusal; 0 where it is solved, which is no refusal's number
abbrev pub outcome_number : {A : Type 0} → answer.Answer A → ℕ
outcome_number (answer.solved x n found) = 0
outcome_number (answer.refused k n) = k
outcome_number (answer.refused_with_bracket k n lo hi) = k

-- what a lent number becomes: the sum of a solved outcome; a refusal leaves it
abbrev pub sum_after : {A : Type 0} → (sum : Float → A → Float) → answer.Answer A → Float → Float
sum_after sum (answer.solved x n found) lent = sum x found
sum_after sum (answer.refused k n) lent = lent
sum_after sum (answer.refused_with_bracket k n lo hi) lent = lent

-- the number of a deck's refusal with a minus, since no mean is below zero
abbrev pub minus_number : ℕ → Float
minus_number k = neg (of_int binary64 (pos k))

-- the mean of an accepted deck, in seconds; NaN where it is absent
abbrev pub mean_of : Residuals → Float
mean_of absent = nan
mean_of (known mean worst) = mean

-- the answer on a deck: its mean (RULES, Tally), or its refusal (The deck)
abbrev pub mean_in : Checked (Totals × Residuals) → Float
mean_in (pass tally) = mean_of tally.1
mean_in (refuse k) = minus_number k

-- what a lent size becomes: the deck's length (RULES, Writing a deck 5); a refusal leaves it
abbrev pub size_after : Checked ℕ → ℕ → ℕ
size_after (pass size) lent = size
size_after (refuse k) lent = lent
