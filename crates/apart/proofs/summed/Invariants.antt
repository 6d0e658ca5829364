-- What lasts over the turns of `apart::summed`.
use Rattle.apart.proofs.Turns.{Summing}
use Rattle.apart.proofs.summed.Given as goal

abbrev pub invariant-loop-i : goal.invariant-loop-i
invariant-loop-i l = Summing l.version l.deck l.count l.i l.sum
