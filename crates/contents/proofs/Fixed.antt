-- Each public function's contract has one result: `Learnt` is the contract itself, as Rattle reads it off the source for callers (coincidence's `Fixes`).
use mathlib.Core.Path.{refl}
use Rattle.coincidence.specs.Coincidence.{Fixes}
use Rattle.coincidence.proofs.Laws.{one_answer}
use Rattle.card.proofs.Theorems.{named_once}
use Rattle.contents.proofs.Theorems.{entered_once, listed_once}
use Rattle.contents.proofs.tested.Reads as tested
use Rattle.contents.proofs.tested.Kinds as tested-kinds
use Rattle.contents.proofs.entry_at.Reads as entry_at
use Rattle.contents.proofs.entry_at.Kinds as entry-at-kinds
use Rattle.contents.proofs.kind_at.Reads as kind_at
use Rattle.contents.proofs.kind_at.Kinds as kind-at-kinds

pub tested_fixes : Fixes 1 tested-kinds.ps tested-kinds.r tested.Learnt
tested_fixes κs a x y v w p q = (one_answer listed_once x y p q, refl)

pub entry_at_fixes : Fixes 1 entry-at-kinds.ps entry-at-kinds.r entry_at.Learnt
entry_at_fixes κs a x y v w p q = (one_answer entered_once x y p q, refl)

pub kind_at_fixes : Fixes 1 kind-at-kinds.ps kind-at-kinds.r kind_at.Learnt
kind_at_fixes κs a x y v w p q = (one_answer named_once x y p q, refl)
