-- What an answer says can be undone, since the number of a reason names the reason: what a velocity or its refusal says is one to one, and a
-- contract through it has one answer.
use mathlib.Core.Path.{◌≡◌, refl}
use mathlib.Core.Bool.{cond}
use mathlib.Core.List.{List, [], ◌∷◌}
use Prim.Native.Nat.{ℕ, ◌-◌}
use lib.Dec.{ltb}
use lib.ListN.{get_or}
use Rattle.coincidence.specs.Coincidence.{OneToOne}
use Rattle.coincidence.proofs.Laws.{undone}
use Rattle.rows.specs.Rows.{checked}
use Rattle.rows.proofs.Laws.{checked_once}
use Rattle.vectors.specs.declared.Vector.{Vector}
use Rattle.arc.specs.declared.Reason.{Reason}
use Rattle.arc.specs.declared.Reason.TheVariants as why
use Rattle.arc.specs.Said.{reason_number}

-- a reason by its number: a list from 0 on, where 0, 4, 7 and 8 are no transfer's, and one from 50 on
abbrev low : List Reason
low =
    why.NotFinite
    ∷ why.InputNotFinite
    ∷ why.MuNotPositive
    ∷ why.LimitOutOfRange
    ∷ why.NotFinite
    ∷ why.NoRadius
    ∷ why.NotFinite
    ∷ why.NotFinite
    ∷ why.NotFinite
    ∷ why.BracketClosed
    ∷ why.LimitReached
    ∷ []

abbrev high : List Reason
high = why.AngleTooNear ∷ why.TooLittleTime ∷ why.TooMuchTime ∷ []

abbrev pub reason_of : ℕ → Reason
reason_of k = cond (ltb k 50) (get_or low k why.NotFinite) (get_or high (k - 50) why.NotFinite)

pub reason_is : (r : Reason) → reason_of (reason_number r) ≡ r
reason_is why.InputNotFinite = refl
reason_is why.MuNotPositive = refl
reason_is why.LimitOutOfRange = refl
reason_is why.NoRadius = refl
reason_is why.NotFinite = refl
reason_is why.BracketClosed = refl
reason_is why.LimitReached = refl
reason_is why.AngleTooNear = refl
reason_is why.TooLittleTime = refl
reason_is why.TooMuchTime = refl

-- so a number names one reason
pub reasons_once : OneToOne reason_number
reasons_once = undone reason_number reason_of reason_is

pub departs_once : OneToOne (checked {A = Vector} reason_number)
departs_once = checked_once reason_number reason_of reason_is
