-- What is written for one record: RULES, Lines. Definitions only.
use Rattle.std.specs.Prelude.{ℕ, List}
use Rattle.root.specs.Root.{root_of}
use Rattle.conic.specs.declared.Problem.{Problem}
use Rattle.conic.specs.Said as conic
use Rattle.kepler.specs.Kepler.{kepler_of}
use Rattle.theta.specs.Theta.{theta_of}
use Rattle.lambert.specs.Lambert.{answer_to}
use Rattle.card.specs.Fields.{problem_size, question_size, number_at, problem_of, transfer_of}
use Rattle.outcomes.specs.Outcomes.{outcome_line, transfer_line, most_outcome}
use Rattle.sheets.specs.Sheets.{root_line, working_lines, most_working}
use Rattle.sums.specs.Sums.{sums_at, sums_line}
use Rattle.line.specs.declared.Question.{Question}
use Rattle.line.specs.declared.Question.TheVariants as question

-- Lines 1: the bytes of one record
abbrev pub width_of : Question → ℕ
width_of question.Root = 8
width_of question.Kepler = problem_size
width_of question.Theta = 64
width_of question.Transfer = question_size
width_of question.Digits = 8
width_of question.Series = 8

-- an angle problem has its angle where a problem has its time
abbrev pub turned : Problem → conic.Said
turned p = theta_of p.mu p.r p.v p.dt

-- Lines 1 to 4, 6 and 7: what is asked of the record, and its answer's line or lines
unfoldable pub line_of : Question → (bytes : List ℕ) → List ℕ
line_of question.Root bytes = root_line (root_of (number_at bytes 0))
line_of question.Kepler bytes = outcome_line (kepler_of (problem_of bytes))
line_of question.Theta bytes = outcome_line (turned (problem_of bytes))
line_of question.Transfer bytes = transfer_line (answer_to (transfer_of bytes))
line_of question.Digits bytes = working_lines (number_at bytes 0)
line_of question.Series bytes = sums_line (sums_at (number_at bytes 0))

-- no record has more bytes
abbrev pub most_width : ℕ
most_width = question_size

-- what is written for a record has no more bytes
abbrev pub most_line : Question → ℕ
most_line question.Root = most_outcome
most_line question.Kepler = most_outcome
most_line question.Theta = most_outcome
most_line question.Transfer = most_outcome
most_line question.Digits = most_working
most_line question.Series = most_outcome
