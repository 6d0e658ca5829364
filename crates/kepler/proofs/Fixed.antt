-- Each public function's contract has one result: `Learnt` is the contract itself, as Rattle reads it off the source for callers (coincidence's `Fixes`).
use mathlib.Core.Path.{refl}
use Rattle.coincidence.specs.Coincidence.{Fixes}
use Rattle.coincidence.proofs.Laws.{one_answer}
use Rattle.conic.proofs.Theorems.{said_once}
use Rattle.kepler.proofs.kepler.Reads as kepler
use Rattle.kepler.proofs.kepler.Kinds as kepler-kinds

pub kepler_fixes : Fixes 0 kepler-kinds.ps kepler-kinds.r kepler.Learnt
kepler_fixes κs a x y v w p q = (one_answer said_once x y p q, refl)
