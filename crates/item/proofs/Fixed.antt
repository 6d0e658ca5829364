-- Each public function's contract has one result: `Learnt` is the contract itself, as Rattle reads it off the source for callers (coincidence's `Fixes`).
use mathlib.Core.Path.{ap, refl}
use Rattle.coincidence.specs.Coincidence.{Fixes}
use Rattle.coincidence.proofs.Laws.{one_result}
use Rattle.item.proofs.line.Reads as line
use Rattle.item.proofs.line.Kinds as line-kinds

pub line_fixes : Fixes 2 line-kinds.ps line-kinds.r line.Learnt
line_fixes κs a x y v w p q = (refl, ap (λ l. (tt, (tt, (tt, (tt, (l, tt)))))) (one_result p q))
