-- Each public function's contract has one result: `Learnt` is the contract itself, as Rattle reads it off the source for callers (coincidence's `Fixes`).
use mathlib.Core.Path.{ap, ap₂}
use Rattle.coincidence.specs.Coincidence.{Fixes}
use Rattle.coincidence.proofs.Laws.{one_result}
use Rattle.linked.proofs.tailfiddle_predict.Reads as tailfiddle-predict
use Rattle.linked.proofs.tailfiddle_predict.Kinds as tailfiddle-predict-kinds
use Rattle.linked.proofs.tailfiddle_transfer.Reads as tailfiddle-transfer
use Rattle.linked.proofs.tailfiddle_transfer.Kinds as tailfiddle-transfer-kinds
use Rattle.linked.proofs.tailfiddle_check.Reads as tailfiddle-check
use Rattle.linked.proofs.tailfiddle_check.Kinds as tailfiddle-check-kinds
use Rattle.linked.proofs.tailfiddle_write.Reads as tailfiddle-write
use Rattle.linked.proofs.tailfiddle_write.Kinds as tailfiddle-write-kinds

pub tailfiddle_predict_fixes : Fixes 2 tailfiddle-predict-kinds.ps tailfiddle-predict-kinds.r tailfiddle-predict.Learnt
tailfiddle_predict_fixes κs a x y v w p q = (one_result p.0 q.0, ap (λ l. (tt, (l, tt))) (one_result p.1 q.1))

pub tailfiddle_transfer_fixes : Fixes 2 tailfiddle-transfer-kinds.ps tailfiddle-transfer-kinds.r tailfiddle-transfer.Learnt
tailfiddle_transfer_fixes κs a x y v w p q = (one_result p.0 q.0, ap (λ l. (tt, (l, tt))) (one_result p.1 q.1))

pub tailfiddle_check_fixes : Fixes 2 tailfiddle-check-kinds.ps tailfiddle-check-kinds.r tailfiddle-check.Learnt
tailfiddle_check_fixes κs a x y v w p q = (one_result p.0 q.0, ap (λ l. (tt, (l, tt))) (one_result p.1 q.1))

pub tailfiddle_write_fixes : Fixes 3 tailfiddle-write-kinds.ps tailfiddle-write-kinds.r tailfiddle-write.Learnt
tailfiddle_write_fixes κs a x y v w p q = (one_result p.0 q.0, ap₂ (λ l n. (tt, (tt, (tt, (l, (n, tt)))))) (one_result p.1.0 q.1.0) (one_result p.1.1 q.1.1))
