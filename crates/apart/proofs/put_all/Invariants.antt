-- What lasts over the turns of `apart::put_all`.
use Rattle.apart.proofs.Turns.{Putting}
use Rattle.apart.proofs.put_all.Given as goal

abbrev pub invariant-loop-i : goal.invariant-loop-i
invariant-loop-i l = Putting l.version l.deck l.count l.initial.page l.page l.at l.i
