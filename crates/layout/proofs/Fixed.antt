-- Each public function's contract has one result: `Learnt` is the contract itself, as Rattle reads it off the source for callers (coincidence's `Fixes`).
use mathlib.Core.Path.{refl, ap}
use Rattle.coincidence.specs.Coincidence.{Fixes}
use Rattle.coincidence.proofs.Laws.{one_result}
use Rattle.layout.proofs.put_contents.Reads as put-contents
use Rattle.layout.proofs.put_contents.Kinds as put-contents-kinds
use Rattle.layout.proofs.put_body.Reads as put-body
use Rattle.layout.proofs.put_body.Kinds as put-body-kinds

pub put_contents_fixes : Fixes 3 put-contents-kinds.ps put-contents-kinds.r put-contents.Learnt
put_contents_fixes κs a x y v w p q = (refl, ap (λ l. (tt, (tt, (l, tt)))) (one_result p q))

pub put_body_fixes : Fixes 3 put-body-kinds.ps put-body-kinds.r put-body.Learnt
put_body_fixes κs a x y v w p q = (refl, ap (λ l. (tt, (tt, (l, tt)))) (one_result p q))
