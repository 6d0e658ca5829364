-- Each public function's contract has one result: `Learnt` is the contract itself, as Rattle reads it off the source for callers (coincidence's `Fixes`).
use mathlib.Core.Path.{refl}
use Rattle.coincidence.specs.Coincidence.{Fixes}
use Rattle.coincidence.proofs.Laws.{one_result, one_answer}
use Rattle.compared.proofs.Theorems.{timing_once}
use Rattle.compared.proofs.time.Reads as time
use Rattle.compared.proofs.time.Kinds as time-kinds
use Rattle.compared.proofs.same.Reads as same
use Rattle.compared.proofs.same.Kinds as same-kinds

pub time_fixes : Fixes 0 time-kinds.ps time-kinds.r time.Learnt
time_fixes κs a x y v w p q = (one_answer timing_once x y p q, refl)

pub same_fixes : Fixes 1 same-kinds.ps same-kinds.r same.Learnt
same_fixes κs a x y v w p q = (one_result p q, refl)
