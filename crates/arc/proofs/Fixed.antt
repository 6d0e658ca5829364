-- Each public function's contract has one result: `Learnt` is the contract itself, as Rattle reads it off the source for callers (coincidence's `Fixes`).
use mathlib.Core.Path.{refl}
use Rattle.coincidence.specs.Coincidence.{Fixes}
use Rattle.coincidence.proofs.Laws.{one_result, one_answer}
use Rattle.arc.proofs.Theorems.{departs_once}
use Rattle.arc.proofs.Reason.number.Reads as reason-number
use Rattle.arc.proofs.Reason.number.Kinds as reason-number-kinds
use Rattle.arc.proofs.Scaled.time_at.Reads as scaled-time-at
use Rattle.arc.proofs.Scaled.time_at.Kinds as scaled-time-at-kinds
use Rattle.arc.proofs.Scaled.velocity_at.Reads as scaled-velocity-at
use Rattle.arc.proofs.Scaled.velocity_at.Kinds as scaled-velocity-at-kinds

pub reason_number_fixes : Fixes 0 reason-number-kinds.ps reason-number-kinds.r reason-number.Learnt
reason_number_fixes κs a x y v w p q = (one_result p q, refl)

pub scaled_time_at_fixes : Fixes 0 scaled-time-at-kinds.ps scaled-time-at-kinds.r scaled-time-at.Learnt
scaled_time_at_fixes κs a x y v w p q = (one_result p q, refl)

pub scaled_velocity_at_fixes : Fixes 0 scaled-velocity-at-kinds.ps scaled-velocity-at-kinds.r scaled-velocity-at.Learnt
scaled_velocity_at_fixes κs a x y v w p q = (one_answer departs_once x y p q, refl)
