-- Each public function's contract has one result: `Learnt` is the contract itself, as Rattle reads it off the source for callers (coincidence's `Fixes`).
use mathlib.Core.Path.{ap}
use Rattle.coincidence.specs.Coincidence.{Fixes}
use Rattle.coincidence.proofs.Laws.{one_result, one_answer}
use Rattle.layout.proofs.Theorems.{said_once}
use Rattle.writer.proofs.write.Reads as write
use Rattle.writer.proofs.write.Kinds as write-kinds

pub write_fixes : Fixes 3 write-kinds.ps write-kinds.r write.Learnt
write_fixes κs a x y v w p q = (one_answer said_once x y p.0 q.0, ap (λ l. (tt, (tt, (tt, (tt, (l, tt)))))) (one_result p.1 q.1))
