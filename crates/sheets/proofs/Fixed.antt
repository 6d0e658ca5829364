-- Each public function's contract has one result: `Learnt` is the contract itself, as Rattle reads it off the source for callers (coincidence's `Fixes`).
use mathlib.Core.Path.{ap, refl}
use Rattle.coincidence.specs.Coincidence.{Fixes}
use Rattle.coincidence.proofs.Laws.{one_result}
use Rattle.sheets.proofs.put_root.Reads as put-root
use Rattle.sheets.proofs.put_root.Kinds as put-root-kinds
use Rattle.sheets.proofs.put_refusal.Reads as put-refusal
use Rattle.sheets.proofs.put_refusal.Kinds as put-refusal-kinds
use Rattle.sheets.proofs.put_working.Reads as put-working
use Rattle.sheets.proofs.put_working.Kinds as put-working-kinds

pub put_root_fixes : Fixes 2 put-root-kinds.ps put-root-kinds.r put-root.Learnt
put_root_fixes κs a x y v w p q = (refl, ap (λ l. (tt, (l, tt))) (one_result p q))

pub put_refusal_fixes : Fixes 2 put-refusal-kinds.ps put-refusal-kinds.r put-refusal.Learnt
put_refusal_fixes κs a x y v w p q = (refl, ap (λ l. (tt, (l, tt))) (one_result p q))

pub put_working_fixes : Fixes 2 put-working-kinds.ps put-working-kinds.r put-working.Learnt
put_working_fixes κs a x y v w p q = (refl, ap (λ l. (tt, (l, tt))) (one_result p q))
