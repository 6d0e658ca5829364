-- What is ruled of a card and of a deck, in the numbers and values of RULES, Verdicts, The deck and Writing a deck. Definitions only.
use Rattle.std.specs.Prelude.{ℕ, Float}
use Rattle.ruling.specs.declared.Fault.{Fault}
use Rattle.ruling.specs.declared.Fault.TheVariants as fault
use Rattle.ruling.specs.declared.Reason.{Reason}
use Rattle.ruling.specs.declared.Reason.TheVariants as why
use Rattle.ruling.specs.declared.Verdict.{Verdict}
use Rattle.ruling.specs.declared.Verdict.TheVariants as verdict

-- Verdicts: the numbers that no prediction is refused with
abbrev pub fault_number : Fault → ℕ
fault_number fault.XOutside = 20
fault_number fault.TimeOff = 21
fault_number fault.StateDiffers = 22
fault_number fault.WordNotAllowed = 23
fault_number fault.NumberDiffers = 24

-- Tally 1 and 2: accepted as solved, with the residual in seconds; accepted as refused; rejected, with a number that is not 0
pub data Said : Type 0 where
  solved : (residual : Float) → Said
  refused : Said
  rejected : (k : ℕ) → Said

abbrev pub said : Verdict → Said
said (verdict.Solved residual) = solved residual
said verdict.Refused = refused
said (verdict.Rejected k) = rejected k

-- the number that the verdict list gets
abbrev pub number_in : Said → ℕ
number_in (solved residual) = 0
number_in refused = 0
number_in (rejected k) = k

-- the number that the tables of refused decks give to each reason
abbrev pub reason_number : Reason → ℕ
reason_number why.TooShort = 30
reason_number why.OtherVersion = 31
reason_number why.TooManyCards = 32
reason_number why.ContentsPastEnd = 33
reason_number why.UnknownKind = 34
reason_number why.WrongLength = 35
reason_number why.WrongOffset = 36
reason_number why.BodyPastEnd = 37
reason_number why.BytesLeftOver = 38
reason_number why.ListTooShort = 39
reason_number why.TooManyGiven = 40
reason_number why.NoRoom = 41
reason_number why.OtherForm = 42
reason_number why.BytesDoNotFit = 46
