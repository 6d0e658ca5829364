-- Each public function's contract has one result: `Learnt` is the contract itself, as Rattle reads it off the source for callers (coincidence's `Fixes`).
use mathlib.Core.Path.{refl}
use Rattle.coincidence.specs.Coincidence.{Fixes}
use Rattle.coincidence.proofs.Laws.{one_answer}
use Rattle.ruling.proofs.Theorems.{said_once}
use Rattle.transfer_verdict.proofs.judge.Reads as judge
use Rattle.transfer_verdict.proofs.judge.Kinds as judge-kinds

pub judge_fixes : Fixes 2 judge-kinds.ps judge-kinds.r judge.Learnt
judge_fixes κs a x y v w p q = (one_answer said_once x y p q, refl)
