-- Each public function's contract has one result: `Learnt` is the contract itself, as Rattle reads it off the source for callers (coincidence's `Fixes`).
use mathlib.Core.Path.{refl, ap}
use Rattle.coincidence.specs.Coincidence.{Fixes}
use Rattle.coincidence.proofs.Laws.{one_result}
use Rattle.lines.proofs.block.Reads as block
use Rattle.lines.proofs.block.Kinds as block-kinds
use Rattle.lines.proofs.lines.Reads as lines
use Rattle.lines.proofs.lines.Kinds as lines-kinds

pub block_fixes : Fixes 0 block-kinds.ps block-kinds.r block.Learnt
block_fixes κs a x y v w p q = (one_result p q, refl)

pub lines_fixes : Fixes 2 lines-kinds.ps lines-kinds.r lines.Learnt
lines_fixes κs a x y v w p q = (one_result p.0 q.0, ap (λ l. (tt, (tt, (l, tt)))) (one_result p.1 q.1))
