-- How a row of tests reads: in the rules' order, and the first that does not hold refuses with its number. Definitions only.
use Rattle.std.specs.Prelude.{ℕ, Bool, true, false, Option, Some, None, Result, Ok, Err}

-- what is left after tests, or the number of the first that did not hold
pub data Checked (A : Type 0) : Type 0 where
  pass : A → Checked A
  refuse : ℕ → Checked A

-- a test: where it does not hold, the refusal k
unfoldable pub must : {A : Type 0} → Bool → ℕ → Checked A → Checked A
must true k rest = rest
must false k rest = refuse k

-- the number of a refusal; 0 where there is none
abbrev pub refusal_in : {A : Type 0} → Checked A → ℕ
refusal_in (pass x) = 0
refusal_in (refuse k) = k

-- what an earlier row came to, whatever its refusal, under the number k
abbrev pub renumbered : {A : Type 0} → (k : ℕ) → Checked A → Checked A
renumbered k (pass x) = pass x
renumbered k (refuse j) = refuse k

-- on with what an earlier row of tests came to
unfoldable pub onward : {A B : Type 0} → Checked A → (A → Checked B) → Checked B
onward (pass x) rest = rest x
onward (refuse k) rest = refuse k

-- an answer of the code as a row: its value, or the number of the reason for which it is refused
abbrev pub checked : {A E : Type 0} → (number : E → ℕ) → Result A E → Checked A
checked number (Ok x) = pass x
checked number (Err why) = refuse (number why)

-- the same where there is one refusal alone, the number k
abbrev pub stated : {A : Type 0} → (k : ℕ) → Option A → Checked A
stated k (Some x) = pass x
stated k None = refuse k
