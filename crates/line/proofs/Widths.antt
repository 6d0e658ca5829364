-- How many bytes a record has, and how long a line can be.
use Prim.Native.Nat.{ℕ, ◌≤◌}
use mathlib.Core.List.{List}
use native.Mathlib.Nat.{le_trans}
use native.Mathlib.Omega.{arith}
use lib.ListN.{length}
use Rattle.root.specs.Root.{root_of}
use Rattle.kepler.specs.Kepler.{kepler_of}
use Rattle.card.specs.Fields.{number_at, problem_of, transfer_of}
use Rattle.outcomes.proofs.Widths.{outcome_most, transfer_most}
use Rattle.sheets.proofs.Lines.{root_most, working_most}
use Rattle.lambert.specs.Lambert.{answer_to}
use Rattle.line.specs.declared.Question.{Question}
use Rattle.line.specs.declared.Question.TheVariants as question
use Rattle.sums.specs.Sums.{sums_at}
use Rattle.sums.proofs.Widths.{sums_most}
use Rattle.line.specs.Line.{width_of, most_width, turned, line_of, most_line}

-- the bytes of a record
pub width_least : (asked : Question) → 8 ≤ width_of asked
width_least question.Root = omega arith
width_least question.Kepler = omega arith
width_least question.Theta = omega arith
width_least question.Transfer = omega arith
width_least question.Digits = omega arith
width_least question.Series = omega arith

pub width_most : (asked : Question) → width_of asked ≤ most_width
width_most question.Root = omega arith
width_most question.Kepler = omega arith
width_most question.Theta = omega arith
width_most question.Transfer = omega arith
width_most question.Digits = omega arith
width_most question.Series = omega arith

-- how long what is written for a record is at most
pub line_most : (asked : Question) (bytes : List ℕ) → length (line_of asked bytes) ≤ most_line asked
unfolding line_of
line_most question.Root bytes = le_trans (root_most (root_of (number_at bytes 0))) (omega arith)
line_most question.Kepler bytes = outcome_most (kepler_of (problem_of bytes))
line_most question.Theta bytes = outcome_most (turned (problem_of bytes))
line_most question.Transfer bytes = transfer_most (answer_to (transfer_of bytes))
line_most question.Digits bytes = working_most (number_at bytes 0)
line_most question.Series bytes = le_trans (sums_most (sums_at (number_at bytes 0))) (omega arith)
