-- Each public function's contract has one result: `Learnt` is the contract itself, as Rattle reads it off the source for callers (coincidence's `Fixes`).
use mathlib.Core.Path.{ap, refl}
use Rattle.coincidence.specs.Coincidence.{Fixes}
use Rattle.coincidence.proofs.Laws.{one_result}
use Rattle.spelled.proofs.put.Reads as put
use Rattle.spelled.proofs.put.Kinds as put-kinds

pub put_fixes : Fixes 2 put-kinds.ps put-kinds.r put.Learnt
put_fixes κs a x y v w p q = (refl, ap (λ l. (l, (tt, (tt, tt)))) (one_result p q))
