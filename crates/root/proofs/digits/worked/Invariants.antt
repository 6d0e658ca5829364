-- What lasts over the turns of `root::digits::worked`, and why they end.
use Prim.Native.Nat.{◌≤◌}
use Rattle.root.specs.Paper.{OnPaper}
use Rattle.root.proofs.digits.worked.Given as goal

abbrev pub invariant-loop-sheet : goal.invariant-loop-sheet
invariant-loop-sheet l = (l.left ≤ l.sheet.left) × OnPaper l.v l.sheet

abbrev pub decreases-loop-sheet : goal.decreases-loop-sheet
decreases-loop-sheet l = l.sheet.left
