-- Each public function's contract has one result: `Learnt` is the contract itself, as Rattle reads it off the source for callers (coincidence's `Fixes`).
use mathlib.Core.Path.{refl, ap}
use Rattle.coincidence.specs.Coincidence.{Fixes}
use Rattle.coincidence.proofs.Laws.{one_result}
use Rattle.tag.proofs.present.Reads as present
use Rattle.tag.proofs.present.Kinds as present-kinds
use Rattle.tag.proofs.put.Reads as put
use Rattle.tag.proofs.put.Kinds as put-kinds

pub present_fixes : Fixes 0 present-kinds.ps present-kinds.r present.Learnt
present_fixes κs a x y v w p q = (one_result p q, refl)

pub put_fixes : Fixes 2 put-kinds.ps put-kinds.r put.Learnt
put_fixes κs a x y v w p q = (refl, ap (λ l. (tt, (l, tt))) (one_result p q))
