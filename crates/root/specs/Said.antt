-- What an answer of the root says, in the numbers and values of RULES, Refusal numbers. Definitions only.
use Rattle.std.specs.Prelude.{ℕ, Float, Result, Ok, Err}
use Rattle.root.specs.declared.Reason.{Reason}
use Rattle.root.specs.declared.Reason.TheVariants.{NotFinite, BelowZero}

-- 1 for NaN and the infinities; 13 for a finite number below zero
abbrev pub reason_number : Reason → ℕ
reason_number NotFinite = 1
reason_number BelowZero = 13

-- a root, or a refusal by its number
pub data Said : Type 0 where
  root : Float → Said
  refused : ℕ → Said

abbrev pub said : Result Float Reason → Said
said (Ok x) = root x
said (Err why) = refused (reason_number why)
