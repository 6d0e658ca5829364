-- Each public function's contract has one result: `Learnt` is the contract itself, as Rattle reads it off the source for callers (coincidence's `Fixes`).
use mathlib.Core.Path.{refl}
use Rattle.coincidence.specs.Coincidence.{Fixes}
use Rattle.coincidence.proofs.Laws.{one_result, one_answer}
use Rattle.root.proofs.Theorems.{said_once}
use Rattle.root.proofs.Sheets.{shown_once}
use Rattle.root.proofs.Reason.number.Reads as reason-number
use Rattle.root.proofs.Reason.number.Kinds as reason-number-kinds
use Rattle.root.proofs.root.Reads as root
use Rattle.root.proofs.root.Kinds as root-kinds
use Rattle.root.proofs.sheet_after.Reads as sheet-after
use Rattle.root.proofs.sheet_after.Kinds as sheet-after-kinds

pub reason_number_fixes : Fixes 0 reason-number-kinds.ps reason-number-kinds.r reason-number.Learnt
reason_number_fixes κs a x y v w p q = (one_result p q, refl)

pub root_fixes : Fixes 0 root-kinds.ps root-kinds.r root.Learnt
root_fixes κs a x y v w p q = (one_answer said_once x y p q, refl)

pub sheet_after_fixes : Fixes 0 sheet-after-kinds.ps sheet-after-kinds.r sheet-after.Learnt
sheet_after_fixes κs a x y v w p q = (one_answer shown_once x y p q, refl)
