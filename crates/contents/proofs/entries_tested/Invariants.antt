-- What lasts over the turns of `contents::entries_tested`.
use Rattle.contents.proofs.Walking.{Walking}
use Rattle.contents.proofs.entries_tested.Given as goal

abbrev pub invariant-loop-i : goal.invariant-loop-i
invariant-loop-i l = Walking l.version l.deck l.count l.i l.at
