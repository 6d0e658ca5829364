-- Each public function's contract has one result: `Learnt` is the contract itself, as Rattle reads it off the source for callers (coincidence's `Fixes`).
use mathlib.Core.Path.{ap, refl}
use Rattle.coincidence.specs.Coincidence.{Fixes}
use Rattle.coincidence.proofs.Laws.{one_result}
use Rattle.pieces.proofs.put.Reads as put
use Rattle.pieces.proofs.put.Kinds as put-kinds
use Rattle.pieces.proofs.hand.Reads as hand
use Rattle.pieces.proofs.hand.Kinds as hand-kinds

pub put_fixes : Fixes 3 put-kinds.ps put-kinds.r put.Learnt
put_fixes κs a x y v w p q = (refl, ap (λ l. (l, (tt, tt))) (one_result p q))

pub hand_fixes : Fixes 2 hand-kinds.ps hand-kinds.r hand.Learnt
hand_fixes κs a x y v w p q = (one_result p.0 q.0, ap (λ l. (tt, (l, tt))) (one_result p.1 q.1))
