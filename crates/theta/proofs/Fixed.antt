-- Each public function's contract has one result: `Learnt` is the contract itself, as Rattle reads it off the source for callers (coincidence's `Fixes`).
use mathlib.Core.Path.{refl}
use Rattle.coincidence.specs.Coincidence.{Fixes}
use Rattle.coincidence.proofs.Laws.{one_answer}
use Rattle.conic.proofs.Theorems.{said_once}
use Rattle.theta.proofs.theta.Reads as theta
use Rattle.theta.proofs.theta.Kinds as theta-kinds

pub theta_fixes : Fixes 0 theta-kinds.ps theta-kinds.r theta.Learnt
theta_fixes κs a x y v w p q = (one_answer said_once x y p q, refl)
