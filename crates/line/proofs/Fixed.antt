-- Each public function's contract has one result: `Learnt` is the contract itself, as Rattle reads it off the source for callers (coincidence's `Fixes`).
use mathlib.Core.Path.{refl, ap}
use Rattle.coincidence.specs.Coincidence.{Fixes}
use Rattle.coincidence.proofs.Laws.{one_result}
use Rattle.line.proofs.width.Reads as width
use Rattle.line.proofs.width.Kinds as width-kinds
use Rattle.line.proofs.line.Reads as line
use Rattle.line.proofs.line.Kinds as line-kinds

pub width_fixes : Fixes 0 width-kinds.ps width-kinds.r width.Learnt
width_fixes κs a x y v w p q = (one_result p q, refl)

pub line_fixes : Fixes 3 line-kinds.ps line-kinds.r line.Learnt
line_fixes κs a x y v w p q = (refl, ap (λ l. (tt, (tt, (l, tt)))) (one_result p q))
