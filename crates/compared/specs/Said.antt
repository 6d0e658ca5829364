-- What the answers say, in the numbers and values of RULES, Verdicts. Definitions only.
use Rattle.std.specs.Prelude.{ℕ, Float, Result}
use Rattle.rows.specs.Rows.{Checked, pass, refuse, checked}
use Rattle.ruling.specs.Said.{Said, solved, refused, rejected}

-- an answer that is refused with a number, as it stands
abbrev pub by_number : {A : Type 0} → Result A ℕ → Checked A
by_number a = checked (λ k. k) a

-- the verdict that a row of tests comes to
abbrev pub as_solved : Checked Float → Said
as_solved (pass residual) = solved residual
as_solved (refuse k) = rejected k

abbrev pub as_refused : Checked (Unit {0}) → Said
as_refused (pass good) = refused
as_refused (refuse k) = rejected k
