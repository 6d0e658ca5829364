-- Each public function's contract has one result: `Learnt` is the contract itself, as Rattle reads it off the source for callers (coincidence's `Fixes`).
use mathlib.Core.Path.{ap₂}
use Rattle.coincidence.specs.Coincidence.{Fixes}
use Rattle.coincidence.proofs.Laws.{one_result, one_answer}
use Rattle.apart.proofs.Theorems.{said_once}
use Rattle.apart.proofs.take.Reads as take
use Rattle.apart.proofs.take.Kinds as take-kinds

pub take_fixes : Fixes 3 take-kinds.ps take-kinds.r take.Learnt
take_fixes κs a x y v w p q = (one_answer said_once x y p.0 q.0, ap₂ (λ k l. (tt, (k, (l, tt)))) (one_result p.1.0 q.1.0) (one_result p.1.1 q.1.1))
