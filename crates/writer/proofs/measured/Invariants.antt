-- What lasts over the turns of `writer::measured`.
use Rattle.writer.proofs.Measuring.{Measuring}
use Rattle.writer.proofs.measured.Given as goal

abbrev pub invariant-loop-number : goal.invariant-loop-number
invariant-loop-number l = Measuring l.version l.kinds l.fields l.number-index l.at l.end
