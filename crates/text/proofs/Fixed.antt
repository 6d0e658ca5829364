-- Each public function's contract has one result: `Learnt` is the contract itself, as Rattle reads it off the source for callers (coincidence's `Fixes`).
use mathlib.Core.Path.{ap, refl}
use Rattle.coincidence.specs.Coincidence.{Fixes}
use Rattle.coincidence.proofs.Laws.{one_result}
use Rattle.text.proofs.count.Reads as count
use Rattle.text.proofs.count.Kinds as count-kinds
use Rattle.text.proofs.whole.Reads as whole
use Rattle.text.proofs.whole.Kinds as whole_Kinds
use Rattle.text.proofs.signed.Reads as signed
use Rattle.text.proofs.signed.Kinds as signed-kinds
use Rattle.text.proofs.number.Reads as number
use Rattle.text.proofs.number.Kinds as number-kinds

pub count_fixes : Fixes 2 count-kinds.ps count-kinds.r count.Learnt
count_fixes κs a x y v w p q = (refl, ap (λ l. (l, (tt, tt))) (one_result p q))

pub whole_fixes : Fixes 2 whole_Kinds.ps whole_Kinds.r whole.Learnt
whole_fixes κs a x y v w p q = (refl, ap (λ l. (l, (tt, tt))) (one_result p q))

pub signed_fixes : Fixes 2 signed-kinds.ps signed-kinds.r signed.Learnt
signed_fixes κs a x y v w p q = (refl, ap (λ l. (l, (tt, tt))) (one_result p q))

pub number_fixes : Fixes 2 number-kinds.ps number-kinds.r number.Learnt
number_fixes κs a x y v w p q = (refl, ap (λ l. (l, (tt, tt))) (one_result p q))
