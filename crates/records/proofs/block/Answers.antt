-- `records::block` writes the lines of what it read: what came is no more than a block, and the page has room for its lines.
use Rattle.std.proofs.Common.{List, ℕ, take, length, ◌≤◌, arith}
use Rattle.pieces.proofs.Puts.{InFront}
use Rattle.lines.specs.Lines.{lines_of, block_bytes}
use Rattle.lines.proofs.Records.{lines_found}
use Rattle.records.proofs.block.Given as given
use Rattle.records.proofs.block.Goals as goal
use Rattle.records.proofs.block.Goals.{After-lines-end}

-- what came, and its lines on the page
abbrev came : (g : given.Over) → After-lines-end g → List ℕ
came g c = take c.read-got.result c.read-got.new.space

made : (g : given.Over) (c : After-lines-end g) → InFront (lines_of c.args.asked (came g c)) c.lines-end.new.out c.lines-end.result
made g c =
    let few : length (came g c) ≤ block_bytes c.args.asked = omega (arith, c.read-got.ensures.prefix_len.1) in
    lines_found c.args.asked (came g c) c.args.page.now few c.requires.1 c.lines-end.ensures.value c.lines-end.ensures.out_after

pub slice_bounds-write-end-3 : goal.slice_bounds-write-end-3
slice_bounds-write-end-3 g c = (made g (goal.at.slice_bounds-write-end-3 g c).After-lines-end).within

pub slice_bounds-write-end-4 : goal.slice_bounds-write-end-4
slice_bounds-write-end-4 g c = (made g (goal.at.slice_bounds-write-end-4 g c).After-lines-end).long

pub write-taken-requires : goal.write-taken-requires
write-taken-requires g c = (made g (goal.at.write-taken-requires g c).After-lines-end).is
