-- Each public function's contract has one result: `Learnt` is the contract itself, as Rattle reads it off the source for callers (coincidence's `Fixes`).
use mathlib.Core.Path.{refl}
use Rattle.coincidence.specs.Coincidence.{Fixes}
use Rattle.coincidence.proofs.Laws.{one_answer}
use Rattle.arc_entry.proofs.Theorems.{start_once}
use Rattle.arc_entry.proofs.entry.Reads as entry
use Rattle.arc_entry.proofs.entry.Kinds as entry-kinds

pub entry_fixes : Fixes 0 entry-kinds.ps entry-kinds.r entry.Learnt
entry_fixes κs a x y v w p q = (one_answer start_once x y p q, refl)
