-- `lines::lines` meets its contract: what is answered is the first block, and where there is little room the lines are handed over.
use mathlib.Core.Path.{◌≡◌, ap, ◌∙◌}
use mathlib.Core.List.{List}
use Prim.Native.Nat.{ℕ, ◌≤◌, min}
use native.Mathlib.Nat.{le_trans}
use native.Mathlib.Omega.{arith}
use lib.ListN.{length, take, length-take}
use Rattle.std.proofs.Common.{rules}
use Rattle.pieces.specs.Pieces.{handed_in}
use Rattle.pieces.proofs.Puts.{renamed, handed}
use Rattle.pieces.proofs.Pages.{pages, given_back}
use Rattle.line.specs.declared.Question.{Question}
use Rattle.lines.specs.Lines.{lines_of, block_bytes, block_of, most_text}
use Rattle.lines.proofs.Records.{first_block, text_most}
use Rattle.lines.proofs.lines.Goals as goal
use Rattle.lines.proofs.lines.Goals.{After-min-size}

-- the lines of what is answered are the block's, for which there is room
same_lines : (c : After-min-size) → lines_of c.args.asked (take c.min-size.result c.args.s.now) ≡ lines_of c.args.asked (block_of c.args.asked c.args.s.now)
same_lines c = let args = c.args in ap (lines_of args.asked) (first_block (block_bytes args.asked) args.s.now (c.min-size.ensures ∙ ap (λ (b : ℕ). min b (length args.s.now)) c.block.ensures))

fits : (asked : Question) (s out : List ℕ) → most_text ≤ length out → length (lines_of asked (block_of asked s)) ≤ length out
fits asked s out h = le_trans (text_most asked (block_of asked s) (rw (length-take (block_bytes asked) s) (omega arith))) h

pub returns-then-out-lt-ROOM : goal.returns-then-out-lt-ROOM
returns-then-out-lt-ROOM c =
    let same = same_lines (goal.at.returns-then-out-lt-ROOM c).After-min-size in
    record {
      value = c.in_little_room.ensures.value ∙ ap length same;
      out_after = c.in_little_room.ensures.out_after ∙ ap (λ (l : List ℕ). handed_in l c.args.out.now) same;
    }

pub returns : goal.returns
returns c =
    let args = c.args in
    let fits = fits args.asked args.s.now args.out.now (omega arith) in
    let so = handed (renamed (same_lines (goal.at.returns c).After-min-size) (given_back _ _ c.write.ensures (search (rules, pages)))) fits in
    record { value = so.0; out_after = so.1 }
