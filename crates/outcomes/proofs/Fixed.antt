-- Each public function's contract has one result: `Learnt` is the contract itself, as Rattle reads it off the source for callers (coincidence's `Fixes`).
use mathlib.Core.Path.{ap, refl}
use Rattle.coincidence.specs.Coincidence.{Fixes}
use Rattle.coincidence.proofs.Laws.{one_result}
use Rattle.outcomes.proofs.put.Reads as put
use Rattle.outcomes.proofs.put.Kinds as put-kinds
use Rattle.outcomes.proofs.put_transfer.Reads as put-transfer
use Rattle.outcomes.proofs.put_transfer.Kinds as put-transfer-kinds
use Rattle.outcomes.proofs.refused.Reads as refused
use Rattle.outcomes.proofs.refused.Kinds as refused-kinds

pub put_fixes : Fixes 2 put-kinds.ps put-kinds.r put.Learnt
put_fixes κs a x y v w p q = (refl, ap (λ l. (tt, (l, tt))) (one_result p q))

pub put_transfer_fixes : Fixes 2 put-transfer-kinds.ps put-transfer-kinds.r put-transfer.Learnt
put_transfer_fixes κs a x y v w p q = (refl, ap (λ l. (tt, (l, tt))) (one_result p q))

pub refused_fixes : Fixes 2 refused-kinds.ps refused-kinds.r refused.Learnt
refused_fixes κs a x y v w p q = (refl, ap (λ l. (tt, (tt, (l, tt)))) (one_result p q))
