-- Each public function's contract has one result: `Learnt` is the contract itself, as Rattle reads it off the source for callers (coincidence's `Fixes`).
use mathlib.Core.Path.{refl}
use Rattle.coincidence.specs.Coincidence.{Fixes}
use Rattle.coincidence.proofs.Laws.{one_result, one_answer}
use Rattle.conic.proofs.Theorems.{arrived_once}
use Rattle.conic.proofs.unfolding.arrive.Reads as unfolding-arrive
use Rattle.conic.proofs.unfolding.arrive.Kinds as unfolding-arrive-kinds
use Rattle.conic.proofs.unfolding.arrive_at.Reads as unfolding-arrive-at
use Rattle.conic.proofs.unfolding.arrive_at.Kinds as unfolding-arrive-at-kinds
use Rattle.conic.proofs.Scaled.time_at.Reads as scaled-time-at
use Rattle.conic.proofs.Scaled.time_at.Kinds as scaled-time-at-kinds
use Rattle.conic.proofs.Reason.number.Reads as reason-number
use Rattle.conic.proofs.Reason.number.Kinds as reason-number-kinds
use Rattle.conic.proofs.Reason.is_meant_by.Reads as reason-is-meant-by
use Rattle.conic.proofs.Reason.is_meant_by.Kinds as reason-is-meant-by-kinds

pub unfolding_arrive_fixes : Fixes 0 unfolding-arrive-kinds.ps unfolding-arrive-kinds.r unfolding-arrive.Learnt
unfolding_arrive_fixes κs a x y v w p q = (one_answer arrived_once x y p q, refl)

pub unfolding_arrive_at_fixes : Fixes 0 unfolding-arrive-at-kinds.ps unfolding-arrive-at-kinds.r unfolding-arrive-at.Learnt
unfolding_arrive_at_fixes κs a x y v w p q = (one_answer arrived_once x y p q, refl)

pub scaled_time_at_fixes : Fixes 0 scaled-time-at-kinds.ps scaled-time-at-kinds.r scaled-time-at.Learnt
scaled_time_at_fixes κs a x y v w p q = (one_result p q, refl)

pub reason_number_fixes : Fixes 0 reason-number-kinds.ps reason-number-kinds.r reason-number.Learnt
reason_number_fixes κs a x y v w p q = (one_result p q, refl)

pub reason_is_meant_by_fixes : Fixes 0 reason-is-meant-by-kinds.ps reason-is-meant-by-kinds.r reason-is-meant-by.Learnt
reason_is_meant_by_fixes κs a x y v w p q = (one_result p q, refl)
