-- What lasts over the turns of `problems::answer`.
use Rattle.problems.proofs.Answering.{Answering}
use Rattle.problems.proofs.answer.Given as goal

abbrev pub invariant-loop-i : goal.invariant-loop-i
invariant-loop-i l = Answering l.version l.problems l.initial.kinds l.initial.page l.kinds l.page l.i
