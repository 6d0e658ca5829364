-- Each public function's contract has one result: `Learnt` is the contract itself, as Rattle reads it off the source for callers (coincidence's `Fixes`).
use mathlib.Core.Path.{refl}
use Rattle.coincidence.specs.Coincidence.{Fixes}
use Rattle.coincidence.proofs.Laws.{one_result}
use Rattle.ruling.proofs.Fault.number.Reads as fault-number
use Rattle.ruling.proofs.Fault.number.Kinds as fault-number-kinds
use Rattle.ruling.proofs.Reason.number.Reads as reason-number
use Rattle.ruling.proofs.Reason.number.Kinds as reason-number-kinds
use Rattle.ruling.proofs.Verdict.number.Reads as verdict-number
use Rattle.ruling.proofs.Verdict.number.Kinds as verdict-number-kinds

pub fault_number_fixes : Fixes 0 fault-number-kinds.ps fault-number-kinds.r fault-number.Learnt
fault_number_fixes κs a x y v w p q = (one_result p q, refl)

pub verdict_number_fixes : Fixes 0 verdict-number-kinds.ps verdict-number-kinds.r verdict-number.Learnt
verdict_number_fixes κs a x y v w p q = (one_result p q, refl)

pub reason_number_fixes : Fixes 0 reason-number-kinds.ps reason-number-kinds.r reason-number.Learnt
reason_number_fixes κs a x y v w p q = (one_result p q, refl)
