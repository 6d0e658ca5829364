-- What the answers say, in the numbers and values of RULES, Refusal numbers. Definitions only.
use Rattle.std.specs.Prelude.{ℕ, ◌+◌, Bool, ◌&&◌, ◌||◌, List, Result, leb, ltb, eqb, Float}
use Rattle.conic.specs.declared.State.{State}
use Rattle.conic.specs.declared.Problem.{Problem}
use Rattle.conic.specs.declared.Reason.{Reason}
use Rattle.conic.specs.declared.Reason.TheVariants as why
use Rattle.vectors.specs.Vectors.{numbers_given}
use Rattle.search.specs.declared.Solution.{Solution}
use Rattle.search.specs.declared.Refusal.{Refusal}
use Rattle.search.specs.Answers.{Answer, answered}

-- the eight numbers that Kepler is given, by their places
abbrev pub problem_numbers : Problem → List Float
problem_numbers p = numbers_given p.mu p.r p.v p.dt

-- 101 to 108: the number at each place, from 0 on, of the eight that a prediction is given
abbrev pub input_number : (place : ℕ) → ℕ
input_number place = 101 + place

-- how many these are
abbrev pub inputs : ℕ
inputs = 8

-- the number that the table gives to each reason
abbrev pub reason_number : Reason → ℕ
reason_number (why.InputNotFinite place) = input_number place
reason_number why.MuNotPositive = 2
reason_number why.LimitOutOfRange = 3
reason_number why.AngleTooLarge = 4
reason_number why.NoRadius = 5
reason_number why.NotFinite = 6
reason_number why.StraightLine = 7
reason_number why.BeyondFarEnd = 8
reason_number why.BracketClosed = 9
reason_number why.LimitReached = 10
reason_number why.TooNearCentre = 11
reason_number why.TowardsInfinity = 12
reason_number why.RootRefused = 14

-- whether a refusal is that of one of the eight
abbrev pub is_input : ℕ → Bool
is_input k = leb (input_number 0) k && ltb k (input_number inputs)

-- Verdicts 10: whether the number on a refused card means the refusal k: it is k, or it is 1, and k one of the eight
abbrev pub is_meant_by : (k number : ℕ) → Bool
is_meant_by k number = eqb k number || eqb number 1 && is_input k

-- Refusal numbers, notes b and c: an outcome is a search's answer, with a state where it is solved
abbrev pub Said : Type 0
Said = Answer State

abbrev pub said : Result (Solution State) (Refusal Reason) → Said
said a = answered reason_number a
