-- What the answers say, in the numbers of STEPS, Required velocity. Definitions only.
use Rattle.std.specs.Prelude.{ℕ}
use Rattle.arc.specs.declared.Reason.{Reason}
use Rattle.arc.specs.declared.Reason.TheVariants as why

-- the number that the table gives to each reason
abbrev pub reason_number : Reason → ℕ
reason_number why.InputNotFinite = 1
reason_number why.MuNotPositive = 2
reason_number why.LimitOutOfRange = 3
reason_number why.NoRadius = 5
reason_number why.NotFinite = 6
reason_number why.BracketClosed = 9
reason_number why.LimitReached = 10
reason_number why.AngleTooNear = 50
reason_number why.TooLittleTime = 51
reason_number why.TooMuchTime = 52
