-- The number of a reason names the reason, so what an answer or an arrival says can be undone: `said` and `checked reason_number` are one to one,
-- and a contract through one of them has one answer.
use mathlib.Core.Path.{◌≡◌, refl}
use mathlib.Core.List.{List, [], ◌∷◌}
use mathlib.Core.Bool.{true, cond}
use Prim.Native.Nat.{ℕ, ◌-◌}
use native.Mathlib.Omega.{arith}
use lib.Dec.{leb, le→leb}
use lib.Ieee.Bits.{is_true}
use lib.ListN.{get_or}
use Rattle.coincidence.specs.Coincidence.{OneToOne}
use Rattle.coincidence.proofs.Laws.{undone}
use Rattle.conic.specs.declared.Reason.{Reason}
use Rattle.conic.specs.declared.Reason.TheVariants as why
use Rattle.conic.specs.declared.State.{State}
use Rattle.rows.specs.Rows.{checked}
use Rattle.rows.proofs.Laws.{checked_once}
use Rattle.search.proofs.Theorems.{answered_once}
use Rattle.conic.specs.Said.{input_number, reason_number, said}

-- ---- a reason by its number: from 101 on by its place, below by a list from 0 on, where 0, 1 and 13 are no prediction's
abbrev reasons : List Reason
reasons =
    why.RootRefused
    ∷ why.RootRefused
    ∷ why.MuNotPositive
    ∷ why.LimitOutOfRange
    ∷ why.AngleTooLarge
    ∷ why.NoRadius
    ∷ why.NotFinite
    ∷ why.StraightLine
    ∷ why.BeyondFarEnd
    ∷ why.BracketClosed
    ∷ why.LimitReached
    ∷ why.TooNearCentre
    ∷ why.TowardsInfinity
    ∷ why.RootRefused
    ∷ why.RootRefused
    ∷ []

abbrev pub reason_of : ℕ → Reason
reason_of k = cond (leb (input_number 0) k) (why.InputNotFinite (k - input_number 0)) (get_or reasons k why.RootRefused)

input_is : (place : ℕ) → reason_of (input_number place) ≡ why.InputNotFinite place
input_is place =
    let from : leb (input_number 0) (input_number place) ≡ true = is_true _ (le→leb (input_number 0) (input_number place) (omega arith)) in
    let back : input_number place - input_number 0 ≡ place = omega arith in
    rw (from, back) refl

pub reason_is : (r : Reason) → reason_of (reason_number r) ≡ r
reason_is (why.InputNotFinite place) = input_is place
reason_is why.MuNotPositive = refl
reason_is why.LimitOutOfRange = refl
reason_is why.AngleTooLarge = refl
reason_is why.NoRadius = refl
reason_is why.NotFinite = refl
reason_is why.StraightLine = refl
reason_is why.BeyondFarEnd = refl
reason_is why.BracketClosed = refl
reason_is why.LimitReached = refl
reason_is why.TooNearCentre = refl
reason_is why.TowardsInfinity = refl
reason_is why.RootRefused = refl

-- so a number names one reason
pub reasons_once : OneToOne reason_number
reasons_once = undone reason_number reason_of reason_is

-- ---- a prediction's answer, and an arrival

pub said_once : OneToOne said
said_once = answered_once reason_number reasons_once

pub arrived_once : OneToOne (checked {A = State} reason_number)
arrived_once = checked_once reason_number reason_of reason_is
