-- Each public function's contract has one result: `Learnt` is the contract itself, as Rattle reads it off the source for callers (coincidence's `Fixes`).
use mathlib.Core.Path.{ap}
use Rattle.coincidence.specs.Coincidence.{Fixes}
use Rattle.coincidence.proofs.Laws.{one_result, one_answer}
use Rattle.predicted.proofs.Theorems.{said_once}
use Rattle.predicted.proofs.put.Reads as put
use Rattle.predicted.proofs.put.Kinds as put-kinds

pub put_fixes : Fixes 3 put-kinds.ps put-kinds.r put.Learnt
put_fixes κs a x y v w p q = (one_answer said_once x y p.0 q.0, ap (λ l. (tt, (tt, (l, tt)))) (one_result p.1 q.1))
