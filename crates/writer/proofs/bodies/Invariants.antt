-- What lasts over the turns of `writer::bodies`.
use Rattle.writer.proofs.Laying.{Laying}
use Rattle.writer.proofs.bodies.Given as goal

abbrev pub invariant-loop-number : goal.invariant-loop-number
invariant-loop-number l = Laying l.version l.kinds l.fields l.initial.page l.page l.at l.number-index
