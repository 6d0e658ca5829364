-- `root::digits::worked` meets its contract. The invariant is the sentence that holds on each sheet: the square of the digits, plus the remainder, is the part of the radicand that was
-- brought down, and no other digits leave a remainder as small. The measure is the number of pairs still to come.
use native.Mathlib.Omega.{arith}
use Rattle.root.proofs.Paper.{first_holds}
use Rattle.root.proofs.digits.worked.Goals as goal

pub loop-sheet-init : goal.loop-sheet-init
loop-sheet-init c = (c.requires.1, first_holds c.args.v c.requires.0)

pub turn-sheet-requires : goal.turn-sheet-requires
turn-sheet-requires c = (omega arith, (c.args.v, c.loop-sheet.invariant.1))

pub loop-sheet-smaller : goal.loop-sheet-smaller
loop-sheet-smaller c = omega (arith, c.turn-sheet.ensures.left_value)

pub loop-sheet-preserved : goal.loop-sheet-preserved
loop-sheet-preserved c = (omega (arith, c.turn-sheet.ensures.left_value), c.turn-sheet.ensures.by_index c.args.v c.loop-sheet.invariant.1)

pub returns : goal.returns
returns c = (omega (arith, c.loop-sheet.invariant.0), c.loop-sheet.invariant.1)
