-- Each public function's contract has one result: `Learnt` is the contract itself, as Rattle reads it off the source for callers (coincidence's `Fixes`).
use mathlib.Core.Path.{refl}
use Rattle.coincidence.specs.Coincidence.{Fixes}
use Rattle.coincidence.proofs.Laws.{one_result, one_answer}
use Rattle.units.proofs.Theorems.{given_once, length_once, unit_once}
use Rattle.units.proofs.UnmeasuredFromRootReason.from.Reads as from-reason
use Rattle.units.proofs.UnmeasuredFromRootReason.from.Kinds as from-reason-kinds
use Rattle.units.proofs.given.Reads as given
use Rattle.units.proofs.given.Kinds as given-kinds
use Rattle.units.proofs.radius.Reads as radius
use Rattle.units.proofs.radius.Kinds as radius-kinds
use Rattle.units.proofs.time_unit.Reads as time-unit
use Rattle.units.proofs.time_unit.Kinds as time-unit-kinds

pub from_reason_fixes : Fixes 0 from-reason-kinds.ps from-reason-kinds.r from-reason.Learnt
from_reason_fixes κs a x y v w p q = (one_result p q, refl)

pub given_fixes : Fixes 0 given-kinds.ps given-kinds.r given.Learnt
given_fixes κs a x y v w p q = (one_answer given_once x y p q, refl)

pub radius_fixes : Fixes 0 radius-kinds.ps radius-kinds.r radius.Learnt
radius_fixes κs a x y v w p q = (one_answer length_once x y p q, refl)

pub time_unit_fixes : Fixes 0 time-unit-kinds.ps time-unit-kinds.r time-unit.Learnt
time_unit_fixes κs a x y v w p q = (one_answer unit_once x y p q, refl)
