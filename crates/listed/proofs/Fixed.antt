-- Each public function's contract has one result: `Learnt` is the contract itself, as Rattle reads it off the source for callers (coincidence's `Fixes`).
use mathlib.Core.Path.{ap, refl}
use Rattle.coincidence.specs.Coincidence.{Fixes}
use Rattle.coincidence.proofs.Laws.{one_result}
use Rattle.listed.proofs.totals_line.Reads as totals_line_lem
use Rattle.listed.proofs.totals_line.Kinds as totals-line-kinds
use Rattle.listed.proofs.residual_lines.Reads as residual-lines
use Rattle.listed.proofs.residual_lines.Kinds as residual-lines-kinds

pub totals_line_fixes : Fixes 2 totals-line-kinds.ps totals-line-kinds.r totals_line_lem.Learnt
totals_line_fixes κs a x y v w p q = (refl, ap (λ l. (tt, (l, tt))) (one_result p q))

pub residual_lines_fixes : Fixes 2 residual-lines-kinds.ps residual-lines-kinds.r residual-lines.Learnt
residual_lines_fixes κs a x y v w p q = (refl, ap (λ l. (tt, (l, tt))) (one_result p q))
