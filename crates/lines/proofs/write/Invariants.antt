-- What lasts over the turns of `lines::write`: the lines of the bytes left, written behind those so far, are those of all.
use mathlib.Core.Path.{◌≡◌}
use Rattle.std.specs.Slice.Iter.{chunks_rest, chunks_size}
use Rattle.pieces.proofs.InPieces.{InPieces}
use Rattle.line.specs.Line.{width_of}
use Rattle.lines.specs.Lines.{lines_of}
use Rattle.lines.proofs.write.Given as goal

abbrev pub invariant-loop-part : goal.invariant-loop-part
invariant-loop-part l =
    goal.iterator-loop-part.can_next l.part-iterator
    × goal.iterator-loop-part.is_finite l.part-iterator
    × (chunks_size l.part-iterator ≡ width_of l.asked)
    × InPieces l.initial.page (lines_of l.asked l.s) l.page (lines_of l.asked (chunks_rest l.part-iterator))
