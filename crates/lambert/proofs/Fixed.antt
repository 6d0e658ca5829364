-- Each public function's contract has one result: `Learnt` is the contract itself, as Rattle reads it off the source for callers (coincidence's `Fixes`).
use mathlib.Core.Path.{refl}
use Rattle.coincidence.specs.Coincidence.{Fixes}
use Rattle.coincidence.proofs.Laws.{one_answer}
use Rattle.lambert.proofs.Theorems.{said_once}
use Rattle.lambert.proofs.lambert.Reads as lambert
use Rattle.lambert.proofs.lambert.Kinds as lambert-kinds

pub lambert_fixes : Fixes 0 lambert-kinds.ps lambert-kinds.r lambert.Learnt
lambert_fixes κs a x y v w p q = (one_answer said_once x y p q, refl)
