-- What the answers of the search say. Definitions only.
use Rattle.std.specs.Prelude.{ℕ, Float, Option, Some, None}
use Rattle.search.specs.declared.Bracket.{Bracket}
use Rattle.search.specs.declared.Found.{Found}
use Rattle.search.specs.declared.Found.TheVariants as found

-- The search 5: the next guess, or none
pub data Try : Type 0 where
  guess : Float → Try
  no_guess : Try

abbrev pub said : Option Float → Try
said (Some x) = guess x
said None = no_guess

-- how a search ends: at a guess near the wanted time, or with the bracket for refusal 9 (closed) or 10 (spent), or with a time that is not
-- finite, refusal 6 (lost); each with the count of guesses
pub data Ending : Type 0 where
  solved : Float → ℕ → Ending
  closed : Bracket → ℕ → Ending
  spent : Bracket → ℕ → Ending
  lost : ℕ → Ending

abbrev pub ended : Found → Ending
ended (found.Solved x n) = solved x n
ended (found.Closed b n) = closed b n
ended (found.Spent b n) = spent b n
ended (found.Lost n) = lost n
