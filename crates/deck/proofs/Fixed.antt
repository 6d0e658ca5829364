-- Each public function's contract has one result: `Learnt` is the contract itself, as Rattle reads it off the source for callers (coincidence's `Fixes`).
use mathlib.Core.Path.{ap}
use Rattle.coincidence.specs.Coincidence.{Fixes}
use Rattle.coincidence.proofs.Laws.{one_result, one_answer}
use Rattle.deck.proofs.Theorems.{said_once}
use Rattle.deck.proofs.check.Reads as check
use Rattle.deck.proofs.check.Kinds as check-kinds

pub check_fixes : Fixes 2 check-kinds.ps check-kinds.r check.Learnt
check_fixes κs a x y v w p q = (one_answer said_once x y p.0 q.0, ap (λ l. (tt, (l, tt))) (one_result p.1 q.1))
