-- Each public function's contract has one result: `Learnt` is the contract itself, as Rattle reads it off the source for callers (coincidence's `Fixes`).
use mathlib.Core.Path.{ap}
use Rattle.coincidence.specs.Coincidence.{Fixes}
use Rattle.coincidence.proofs.Laws.{one_result, one_answer}
use Rattle.layout.proofs.Theorems.{said_once}
use Rattle.copier.proofs.copy.Reads as copy
use Rattle.copier.proofs.copy.Kinds as copy-kinds

pub copy_fixes : Fixes 2 copy-kinds.ps copy-kinds.r copy.Learnt
copy_fixes κs a x y v w p q = (one_answer said_once x y p.0 q.0, ap (λ l. (tt, (l, tt))) (one_result p.1 q.1))
