-- The lines of records one behind the other: RULES, Lines. Definitions only.
use Rattle.std.specs.Prelude.{ℕ, zero, suc, ◌+◌, ◌*◌, ◌/◌, List, [], ◌∷◌, ◌++◌, length, take, drop}
use Rattle.text.specs.Text.{text}
use Rattle.line.specs.declared.Question.{Question}
use Rattle.line.specs.declared.Question.TheVariants as question
use Rattle.line.specs.Line.{width_of, line_of, most_width}
use Rattle.outcomes.specs.Outcomes.{most_outcome}

-- Lines 5: what is left behind the last whole record: nothing, or a record that is cut off
abbrev pub left_over : List ℕ → List ℕ
left_over [] = []
left_over (b ∷ bytes) = text "short\n"

-- Lines 5: what is written for each of n records, then what is left
unfoldable pub lines_from : Question → (n : ℕ) → List ℕ → List ℕ
lines_from asked zero bytes = left_over bytes
lines_from asked (suc n) bytes = line_of asked (take (width_of asked) bytes) ++ lines_from asked n (drop (width_of asked) bytes)

-- the lines of all the bytes that come
abbrev pub lines_of : Question → List ℕ → List ℕ
lines_of asked bytes = lines_from asked (length bytes / width_of asked) bytes

-- the records that are answered at a time, 64, and of a root's turns, which take many lines, one; and the bytes that so many have
abbrev pub most_records : ℕ
most_records = 64

abbrev pub block_records : Question → ℕ
block_records question.Root = most_records
block_records question.Kepler = most_records
block_records question.Theta = most_records
block_records question.Transfer = most_records
block_records question.Digits = 1
block_records question.Series = most_records

abbrev pub block_bytes : Question → ℕ
block_bytes asked = block_records asked * width_of asked

-- the most bytes that a block has
abbrev pub most_block : ℕ
most_block = most_records * most_width

-- no input has as many blocks, since a word counts its bytes
abbrev pub most_blocks : ℕ
most_blocks = 0xffff_ffff_ffff_ffff

abbrev pub block_of : Question → List ℕ → List ℕ
block_of asked bytes = take (block_bytes asked) bytes

-- the lines of no block have more bytes
abbrev pub most_text : ℕ
most_text = most_records * most_outcome + 6
