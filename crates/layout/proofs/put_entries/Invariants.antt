-- What lasts over the turns of `layout::put_entries`.
use Rattle.layout.proofs.Entering.{Entering}
use Rattle.layout.proofs.put_entries.Given as goal

abbrev pub invariant-loop-number : goal.invariant-loop-number
invariant-loop-number l = Entering l.version l.kinds l.initial.page l.page l.offset l.number-index
