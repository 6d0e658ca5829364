-- Each public function's contract has one result: `Learnt` is the contract itself, as Rattle reads it off the source for callers (coincidence's `Fixes`).
use mathlib.Core.Path.{refl}
use Rattle.coincidence.specs.Coincidence.{Fixes}
use Rattle.coincidence.proofs.Laws.{one_answer}
use Rattle.entry.proofs.Theorems.{scaled_once, start_once}
use Rattle.entry.proofs.entry.Reads as entry
use Rattle.entry.proofs.entry.Kinds as entry-kinds
use Rattle.entry.proofs.angle_entry.Reads as angle-entry
use Rattle.entry.proofs.angle_entry.Kinds as angle-entry-kinds

pub entry_fixes : Fixes 0 entry-kinds.ps entry-kinds.r entry.Learnt
entry_fixes κs a x y v w p q = (one_answer start_once x y p q, refl)

pub angle_entry_fixes : Fixes 0 angle-entry-kinds.ps angle-entry-kinds.r angle-entry.Learnt
angle_entry_fixes κs a x y v w p q = (one_answer scaled_once x y p q, refl)
