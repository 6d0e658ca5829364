-- The number of a reason for which a deck is refused names the reason.
use mathlib.Core.Path.{◌≡◌, refl}
use mathlib.Core.List.{List, [], ◌∷◌}
use Prim.Native.Nat.{ℕ, ◌-◌}
use lib.ListN.{get_or}
use Rattle.ruling.specs.declared.Reason.{Reason}
use Rattle.ruling.specs.declared.Reason.TheVariants as why
use Rattle.ruling.specs.Said.{reason_number}

-- a reason by its number, from 30 on; the last one, 46, is behind them all
abbrev reasons : List Reason
reasons =
    why.TooShort
    ∷ why.OtherVersion
    ∷ why.TooManyCards
    ∷ why.ContentsPastEnd
    ∷ why.UnknownKind
    ∷ why.WrongLength
    ∷ why.WrongOffset
    ∷ why.BodyPastEnd
    ∷ why.BytesLeftOver
    ∷ why.ListTooShort
    ∷ why.TooManyGiven
    ∷ why.NoRoom
    ∷ why.OtherForm
    ∷ []

abbrev pub reason_of : ℕ → Reason
reason_of k = get_or reasons (k - 30) why.BytesDoNotFit

pub reason_is : (r : Reason) → reason_of (reason_number r) ≡ r
reason_is why.TooShort = refl
reason_is why.OtherVersion = refl
reason_is why.TooManyCards = refl
reason_is why.ContentsPastEnd = refl
reason_is why.UnknownKind = refl
reason_is why.WrongLength = refl
reason_is why.WrongOffset = refl
reason_is why.BodyPastEnd = refl
reason_is why.BytesLeftOver = refl
reason_is why.ListTooShort = refl
reason_is why.TooManyGiven = refl
reason_is why.NoRoom = refl
reason_is why.OtherForm = refl
reason_is why.BytesDoNotFit = refl
