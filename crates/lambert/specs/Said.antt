-- What an answer says, in the numbers and values of STEPS, Required velocity. Definitions only.
use Rattle.std.specs.Prelude.{Result}
use Rattle.search.specs.declared.Solution.{Solution}
use Rattle.search.specs.declared.Refusal.{Refusal}
use Rattle.search.specs.Answers.{Answer, answered}
use Rattle.vectors.specs.declared.Vector.{Vector}
use Rattle.arc.specs.declared.Reason.{Reason}
use Rattle.arc.specs.Said.{reason_number}

-- an outcome is a search's answer, with a velocity where it is solved
abbrev pub Said : Type 0
Said = Answer Vector

abbrev pub said : Result (Solution Vector) (Refusal Reason) → Said
said a = answered reason_number a
