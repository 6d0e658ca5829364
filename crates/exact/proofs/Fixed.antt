-- Each public function's contract has one result: `Learnt` is the contract itself, as Rattle reads it off the source for callers (coincidence's `Fixes`).
use mathlib.Core.Path.{refl}
use Rattle.coincidence.specs.Coincidence.{Fixes}
use Rattle.coincidence.proofs.Laws.{one_result}
use Rattle.exact.proofs.finite.Reads as finite
use Rattle.exact.proofs.finite.Kinds as finite-kinds
use Rattle.exact.proofs.absolute.Reads as absolute
use Rattle.exact.proofs.absolute.Kinds as absolute-kinds
use Rattle.exact.proofs.near.Reads as near
use Rattle.exact.proofs.near.Kinds as near-kinds
use Rattle.exact.proofs.number.Reads as number
use Rattle.exact.proofs.number.Kinds as number-kinds
use Rattle.exact.proofs.word.Reads as word
use Rattle.exact.proofs.word.Kinds as word-kinds

pub finite_fixes : Fixes 0 finite-kinds.ps finite-kinds.r finite.Learnt
finite_fixes κs a x y v w p q = (one_result p q, refl)

pub absolute_fixes : Fixes 0 absolute-kinds.ps absolute-kinds.r absolute.Learnt
absolute_fixes κs a x y v w p q = (one_result p q, refl)

pub near_fixes : Fixes 0 near-kinds.ps near-kinds.r near.Learnt
near_fixes κs a x y v w p q = (one_result p q, refl)

pub number_fixes : Fixes 0 number-kinds.ps number-kinds.r number.Learnt
number_fixes κs a x y v w p q = (one_result p q, refl)

pub word_fixes : Fixes 0 word-kinds.ps word-kinds.r word.Learnt
word_fixes κs a x y v w p q = (one_result p q, refl)
