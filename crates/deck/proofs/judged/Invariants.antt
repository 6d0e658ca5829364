-- What lasts over the turns of `deck::judged`.
use Rattle.deck.proofs.Going.{Going}
use Rattle.deck.proofs.judged.Given as goal

abbrev pub invariant-loop-i : goal.invariant-loop-i
invariant-loop-i l = Going l.version l.deck l.count l.initial.verdicts l.verdicts l.i l.at l.running
