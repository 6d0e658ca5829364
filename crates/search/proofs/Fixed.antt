-- Each public function's contract has one result: `Learnt` is the contract itself, as Rattle reads it off the source for callers (coincidence's `Fixes`).
use mathlib.Core.Path.{refl}
use denote.RattleType.{RattleType}
use denote.Param.Laws.{Laws, IsCopy}
use mir.Syntax.{Dict}
use Rattle.std.specs.declared.clone.Clone
use Rattle.search.specs.declared.Why
use Rattle.search.specs.declared.Sought
use Rattle.coincidence.specs.Coincidence.{OneToOne, Fixes}
use Rattle.coincidence.proofs.Laws.{one_result, one_answer}
use Rattle.search.proofs.Theorems.{said_once, answered_once}
use Rattle.search.proofs.allows.Reads as allows
use Rattle.search.proofs.allows.Kinds as allows-kinds
use Rattle.search.proofs.contains.Reads as contains
use Rattle.search.proofs.contains.Kinds as contains-kinds
use Rattle.search.proofs.first.Reads as first
use Rattle.search.proofs.first.Kinds as first-kinds
use Rattle.search.proofs.narrowed.Reads as narrowed
use Rattle.search.proofs.narrowed.Kinds as narrowed-kinds
use Rattle.search.proofs.next.Reads as next
use Rattle.search.proofs.next.Kinds as next-kinds
use Rattle.search.proofs.answer.Reads as answer
use Rattle.search.proofs.answer.Kinds as answer-kinds
use Rattle.search.proofs.with_found.Reads as with-found
use Rattle.search.proofs.with_found.Kinds as with-found-kinds

pub allows_fixes : Fixes 0 allows-kinds.ps allows-kinds.r allows.Learnt
allows_fixes κs a x y v w p q = (one_result p q, refl)

pub contains_fixes : Fixes 0 contains-kinds.ps contains-kinds.r contains.Learnt
contains_fixes κs a x y v w p q = (one_result p q, refl)

pub first_fixes : Fixes 0 first-kinds.ps first-kinds.r first.Learnt
first_fixes κs a x y v w p q = (one_result p q, refl)

pub narrowed_fixes : Fixes 0 narrowed-kinds.ps narrowed-kinds.r narrowed.Learnt
narrowed_fixes κs a x y v w p q = (one_result p q, refl)

pub next_fixes : Fixes 0 next-kinds.ps next-kinds.r next.Learnt
next_fixes κs a x y v w p q = (one_answer said_once x y p q, refl)

-- a generic function's contract has one result for all types and all that their bounds may say of them, where the number of a reason names it (`reasons_once`, of each that there is)
module _ (A W : RattleType) (a-laws : Laws A) (w-laws : Laws W) (a-copy : IsCopy A) (w-copy : IsCopy W) (a-clone : Clone.Ghosts A.Denot) (a-clone-dict : Dict)
    (why : Why.Ghosts W.Denot) (why-dict : Dict) (w-clone : Clone.Ghosts W.Denot) (w-clone-dict : Dict) (named : OneToOne why.number) where
  pub with_found_fixes : Fixes 2 (with-found-kinds.ps A W a-laws w-laws a-copy w-copy) (with-found-kinds.r A W a-laws w-laws a-copy w-copy)
      (with-found.Learnt A W a-laws w-laws a-copy w-copy a-clone a-clone-dict why why-dict w-clone w-clone-dict)
  with_found_fixes κs a x y v w p q = (one_answer (answered_once why.number named) x y p q, refl)

  module _ (S : RattleType) (s-laws : Laws S) (s-copy : IsCopy S) (sought : Sought.Ghosts S.Denot A.Denot W.Denot) (sought-dict : Dict)
      (s-clone : Clone.Ghosts S.Denot) (s-clone-dict : Dict) where
    pub answer_fixes : Fixes 3 (answer-kinds.ps S A W s-laws a-laws w-laws s-copy a-copy w-copy) (answer-kinds.r S A W s-laws a-laws w-laws s-copy a-copy w-copy)
        (answer.Learnt S A W s-laws a-laws w-laws s-copy a-copy w-copy sought sought-dict s-clone s-clone-dict a-clone a-clone-dict why why-dict w-clone w-clone-dict)
    answer_fixes κs a x y v w p q = (one_answer (answered_once why.number named) x y p q, refl)
