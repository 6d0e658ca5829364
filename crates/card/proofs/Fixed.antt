-- Each public function's contract has one result: `Learnt` is the contract itself, as Rattle reads it off the source for callers (coincidence's `Fixes`).
use mathlib.Core.Path.{refl}
use Rattle.coincidence.specs.Coincidence.{Fixes}
use Rattle.coincidence.proofs.Laws.{one_result, one_answer}
use Rattle.card.proofs.Theorems.{named_once, asked_once}
use Rattle.card.proofs.Kind.number.Reads as kind-number
use Rattle.card.proofs.Kind.number.Kinds as kind-number-kinds
use Rattle.card.proofs.Kind.packed.Reads as kind-packed
use Rattle.card.proofs.Kind.packed.Kinds as kind-packed-kinds
use Rattle.card.proofs.Kind.size.Reads as kind-size
use Rattle.card.proofs.Kind.size.Kinds as kind-size-kinds
use Rattle.card.proofs.Kind.answer.Reads as kind-answer
use Rattle.card.proofs.Kind.answer.Kinds as kind-answer-kinds
use Rattle.card.proofs.Kind.answer_at.Reads as kind-answer-at
use Rattle.card.proofs.Kind.answer_at.Kinds as kind-answer-at-kinds
use Rattle.card.proofs.given_size.Reads as given_size_lem
use Rattle.card.proofs.given_size.Kinds as given-size-kinds
use Rattle.card.proofs.tag.Reads as tag
use Rattle.card.proofs.tag.Kinds as tag-kinds
use Rattle.card.proofs.kind_of.Reads as kind-of
use Rattle.card.proofs.kind_of.Kinds as kind-of-kinds
use Rattle.card.proofs.number.Reads as number
use Rattle.card.proofs.number.Kinds as number-kinds
use Rattle.card.proofs.problem.Reads as problem
use Rattle.card.proofs.problem.Kinds as problem-kinds
use Rattle.card.proofs.transfer.Reads as transfer
use Rattle.card.proofs.transfer.Kinds as transfer-kinds

pub kind_number_fixes : Fixes 0 kind-number-kinds.ps kind-number-kinds.r kind-number.Learnt
kind_number_fixes κs a x y v w p q = (one_result p q, refl)

pub kind_packed_fixes : Fixes 0 kind-packed-kinds.ps kind-packed-kinds.r kind-packed.Learnt
kind_packed_fixes κs a x y v w p q = (one_result p q, refl)

pub kind_size_fixes : Fixes 0 kind-size-kinds.ps kind-size-kinds.r kind-size.Learnt
kind_size_fixes κs a x y v w p q = (one_result p q, refl)

pub kind_answer_fixes : Fixes 0 kind-answer-kinds.ps kind-answer-kinds.r kind-answer.Learnt
kind_answer_fixes κs a x y v w p q = (one_result p q, refl)

pub kind_answer_at_fixes : Fixes 0 kind-answer-at-kinds.ps kind-answer-at-kinds.r kind-answer-at.Learnt
kind_answer_at_fixes κs a x y v w p q = (one_result p q, refl)

pub given_size_fixes : Fixes 0 given-size-kinds.ps given-size-kinds.r given_size_lem.Learnt
given_size_fixes κs a x y v w p q = (one_result p q, refl)

pub tag_fixes : Fixes 1 tag-kinds.ps tag-kinds.r tag.Learnt
tag_fixes κs a x y v w p q = (one_result p q, refl)

pub kind_of_fixes : Fixes 0 kind-of-kinds.ps kind-of-kinds.r kind-of.Learnt
kind_of_fixes κs a x y v w p q = (one_answer named_once x y p q, refl)

pub number_fixes : Fixes 1 number-kinds.ps number-kinds.r number.Learnt
number_fixes κs a x y v w p q = (one_result p q, refl)

pub problem_fixes : Fixes 1 problem-kinds.ps problem-kinds.r problem.Learnt
problem_fixes κs a x y v w p q = (one_result p q, refl)

pub transfer_fixes : Fixes 1 transfer-kinds.ps transfer-kinds.r transfer.Learnt
transfer_fixes κs a x y v w p q = (one_answer asked_once x y p q, refl)
