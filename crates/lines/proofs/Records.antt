-- Laws of the lines of records: the first record's line comes first; blocks of whole records have the lines of all of them; and how long the text of a block can be.
use mathlib.Core.Path.{◌≡◌, refl, sym, ap, ◌∙◌}
use mathlib.Core.Bool.{Bool, true, false}
use mathlib.Core.List.{List, [], ◌∷◌, ◌++◌, append_assoc}
use Prim.Native.Nat.{ℕ, zero, suc, ◌+◌, ◌-◌, ◌*◌, ◌/◌, ◌≤◌, ◌<◌, min}
use native.Mathlib.Nat.{mul-le-mul, mul-le-mul_right, le-mul_of_pos_right, mul-div-le, div-eq-sub-div, div-eq_of_lt, div-le_of_le-mul, zero-mul, suc-mul, mul_comm, le_trans, le_of_eq, min-eq_left}
use native.Mathlib.Numerals.{add-one}
use native.Mathlib.Omega.{arith}
use borrow.Author.Tests.{leb-true, leb-false}
use lib.Dec.{leb}
use lib.ListN.{length, take, drop, length-append, length-drop, drop_of_length-le}
use lib.Seq.{take_all, take-append-le, drop-append-le}
use Rattle.pieces.specs.Pieces.{handed_in}
use Rattle.pieces.proofs.Puts.{InFront, found}
use Rattle.line.specs.declared.Question.{Question}
use Rattle.line.specs.declared.Question.TheVariants as question
use Rattle.line.specs.Line.{width_of, line_of, most_line}
use Rattle.line.proofs.Widths.{width_least, width_most, line_most}
use Rattle.lines.specs.Lines.{left_over, lines_from, lines_of, most_records, block_records, block_bytes, most_block, most_blocks, block_of, most_text}

-- how many records a block has, and that there is room for what is written for them
pub records_least : (asked : Question) → 1 ≤ block_records asked
records_least question.Root = omega arith
records_least question.Kepler = omega arith
records_least question.Theta = omega arith
records_least question.Transfer = omega arith
records_least question.Digits = omega arith
records_least question.Series = omega arith

pub records_most : (asked : Question) → block_records asked ≤ most_records
records_most question.Root = omega arith
records_most question.Kepler = omega arith
records_most question.Theta = omega arith
records_most question.Transfer = omega arith
records_most question.Digits = omega arith
records_most question.Series = omega arith

enough_room : (asked : Question) → block_records asked * most_line asked + 6 ≤ most_text
enough_room question.Root = omega arith
enough_room question.Kepler = omega arith
enough_room question.Theta = omega arith
enough_room question.Transfer = omega arith
enough_room question.Digits = omega arith
enough_room question.Series = omega arith

-- the least and the most bytes that a block has
block_least : (asked : Question) → 8 ≤ block_bytes asked
block_least asked = le_trans (width_least asked) (le_trans (le-mul_of_pos_right (width_of asked) (records_least asked)) (le_of_eq (mul_comm (width_of asked) (block_records asked))))

pub block_most : (asked : Question) → block_bytes asked ≤ most_block
block_most asked = mul-le-mul (records_most asked) (width_most asked)

-- an input whose bytes a word counts has fewer blocks than the programs would read
pub blocks_most : (asked : Question) (bytes : List ℕ) → length bytes ≤ most_blocks → length bytes / block_bytes asked < most_blocks
blocks_most asked bytes h =
    let many : 2 * (length bytes / block_bytes asked) ≤ length bytes = le_trans (mul-le-mul_right (length bytes / block_bytes asked) (omega (arith, block_least asked))) (mul-div-le (length bytes) (block_bytes asked)) in
    omega (arith, h, many)

width_some : (asked : Question) → 0 < width_of asked
width_some asked = omega (arith, width_least asked)

-- where a whole record stands, its line comes first; where none does, only what is left over
pub first_line : (asked : Question) (bytes : List ℕ) → width_of asked ≤ length bytes → lines_of asked bytes ≡ line_of asked (take (width_of asked) bytes) ++ lines_of asked (drop (width_of asked) bytes)
unfolding lines_from
first_line asked bytes h =
    let w : ℕ = width_of asked in
    let fewer : length bytes / w ≡ suc (length (drop w bytes) / w) = div-eq-sub-div (width_some asked) h ∙ add-one ((length bytes - w) / w) ∙ ap (λ (k : ℕ). suc (k / w)) (sym (length-drop w bytes)) in
    ap (λ (k : ℕ). lines_from asked k bytes) fewer

pub no_line : (asked : Question) (bytes : List ℕ) → length bytes < width_of asked → lines_of asked bytes ≡ left_over bytes
unfolding lines_from
no_line asked bytes h = ap (λ (k : ℕ). lines_from asked k bytes) (div-eq_of_lt h)

-- blocks of whole records: their lines are the lines of all of them
pub blocks_join : (asked : Question) (n : ℕ) (block rest : List ℕ) → length block ≡ n * width_of asked → lines_of asked (block ++ rest) ≡ lines_of asked block ++ lines_of asked rest
blocks_join asked zero block rest e =
    let none : block ≡ [] = drop_of_length-le block (le_of_eq (e ∙ zero-mul (width_of asked))) in
    rw none (ap (λ (l : List ℕ). l ++ lines_of asked rest) (sym (no_line asked [] (width_some asked))))
blocks_join asked (suc n) block rest e =
    let w : ℕ = width_of asked in
    let all : length block ≡ n * w + w = e ∙ suc-mul n w in
    let inside : w ≤ length block = omega (arith, all) in
    let longer : w ≤ length (block ++ rest) = simp length-append (omega (arith, inside)) in
    let fewer : length (drop w block) ≡ n * w = rw (length-drop w block) (omega (arith, all)) in
    first_line asked (block ++ rest) longer
    ∙ ap (λ (l : List ℕ). line_of asked l ++ lines_of asked (drop w (block ++ rest))) (take-append-le w block rest inside)
    ∙ ap (λ (l : List ℕ). line_of asked (take w block) ++ lines_of asked l) (drop-append-le w block rest inside)
    ∙ ap (λ (l : List ℕ). line_of asked (take w block) ++ l) (blocks_join asked n (drop w block) rest fewer)
    ∙ sym (append_assoc (line_of asked (take w block)) (lines_of asked (drop w block)) (lines_of asked rest))
    ∙ ap (λ (l : List ℕ). l ++ lines_of asked rest) (sym (first_line asked block inside))

-- as many bytes as a block has, or as there are, are the block
pub first_block : (b : ℕ) (bytes : List ℕ) {n : ℕ} → n ≡ min b (length bytes) → take n bytes ≡ take b bytes
first_block b bytes e = ap (λ (k : ℕ). take k bytes) e ∙ go (leb b (length bytes)) refl
  where
    go : (t : Bool) → leb b (length bytes) ≡ t → take (min b (length bytes)) bytes ≡ take b bytes
    go true f = ap (λ (k : ℕ). take k bytes) (min-eq_left (leb-true b (length bytes) f))
    go false f =
        let all : length bytes ≤ b = omega (arith, leb-false b (length bytes) f) in
        take_all (min b (length bytes)) bytes (omega arith) ∙ sym (take_all b bytes all)

-- how long the text of a block is at most
left_most : (bytes : List ℕ) → length (left_over bytes) ≤ 6
left_most [] = omega arith
left_most (b ∷ bytes) = omega arith

from_most : (asked : Question) (n : ℕ) (bytes : List ℕ) → length (lines_from asked n bytes) ≤ n * most_line asked + 6
unfolding lines_from
from_most asked zero bytes = omega (arith, left_most bytes)
from_most asked (suc n) bytes =
    let w : ℕ = width_of asked in
    simp length-append (omega (arith, line_most asked (take w bytes), from_most asked n (drop w bytes)))

pub text_most : (asked : Question) (bytes : List ℕ) → length bytes ≤ block_bytes asked → length (lines_of asked bytes) ≤ most_text
text_most asked bytes h =
    let n : ℕ = length bytes / width_of asked in
    let few : n ≤ block_records asked = div-le_of_le-mul (width_of asked) (le_trans h (le_of_eq (mul_comm (block_records asked) (width_of asked)))) in
    omega (arith, enough_room asked, mul-le-mul_right (most_line asked) few, from_most asked n bytes)

-- the lines of records that are no more than a block, handed over in a buffer with room for the text of any block
pub lines_found : (asked : Question) (bytes buffer : List ℕ) {after : List ℕ} {n : ℕ} → length bytes ≤ block_bytes asked → most_text ≤ length buffer
    → n ≡ length (lines_of asked (block_of asked bytes)) → after ≡ handed_in (lines_of asked (block_of asked bytes)) buffer → InFront (lines_of asked bytes) after n
lines_found asked bytes buffer h room e held =
    let all : lines_of asked (block_of asked bytes) ≡ lines_of asked bytes = ap (lines_of asked) (take_all (block_bytes asked) bytes h) in
    found (lines_of asked bytes) buffer (le_trans (text_most asked bytes h) room) (e ∙ ap length all) (held ∙ ap (λ (l : List ℕ). handed_in l buffer) all)
