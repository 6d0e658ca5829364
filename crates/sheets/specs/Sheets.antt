-- The lines of a root, and of its turns on paper: RULES, Lines 2 and 6. Definitions only.
use Rattle.std.specs.Prelude.{ℕ, zero, suc, ◌%◌, ◌≡◌, List, [], ◌∷◌, ◌++◌, Float}
use Rattle.std.specs.Float.{binary64}
use Rattle.exact.specs.Numbers.{steps}
use Rattle.pieces.specs.Pieces.{joined}
use Rattle.text.specs.Text.{text, count, whole, number}
use Rattle.root.specs.declared.Sheet.{Sheet}
use Rattle.root.specs.Said as said
use Rattle.root.specs.Root.{root_of}
use Rattle.root.specs.Paper.{whole_of, pair_of, trial_of, after_turns, rounded_of, Shown, sheet, zero_itself, refused, sheet_of}

-- Lines 2 and 7: `refused NUMBER`
abbrev pub refusal_line : (k : ℕ) → List ℕ
refusal_line k = joined (text "refused" ∷ count k ∷ text "\n" ∷ [])

-- Lines 2: `root WORD`, or a refusal
abbrev pub root_line : said.Said → List ℕ
root_line (said.root x) = joined (text "root" ∷ number x ∷ text "\n" ∷ [])
root_line (said.refused k) = refusal_line k

-- Lines 6: `turn N PAIR TRIAL DIGIT REMAINDER`, from the sheets before and after
abbrev pub turn_line : (n : ℕ) (before after : Sheet) → List ℕ
turn_line n before after = joined (text "turn" ∷ whole n ∷ whole (pair_of before) ∷ whole (trial_of before) ∷ whole (after.digits % 2) ∷ whole after.remainder ∷ text "\n" ∷ [])

-- Lines 6: the first n turns, of the root of v * 2 ^ 54
unfoldable pub turn_lines : (v n : ℕ) → List ℕ
turn_lines v zero = []
turn_lines v (suc n) = turn_lines v n ++ turn_line (suc n) (after_turns v n) (after_turns v (suc n))

-- Lines 6: `rounded DIGITS ROUNDED`
abbrev pub rounded_line : Sheet → List ℕ
rounded_line s = joined (text "rounded" ∷ whole s.digits ∷ whole (rounded_of s.digits) ∷ text "\n" ∷ [])

-- Lines 6: where there is a last sheet, the turns and the rounding
abbrev pub leading_up : (v : ℕ) (last : Shown) → List ℕ
leading_up v (sheet s) = joined (turn_lines v 54 ∷ rounded_line s ∷ [])
leading_up v zero_itself = []
leading_up v (refused k) = []

unfoldable pub working_lines : Float → List ℕ
working_lines x = leading_up (whole_of (steps binary64 x)) (sheet_of x 54) ++ root_line (root_of x)

-- x has a last sheet, and so all the others
pub record Worked (x : Float) : Type 0 where
  pub last : Sheet
  pub is : sheet_of x 54 ≡ sheet last

-- no working has more bytes
abbrev pub most_working : ℕ
most_working = 6012
