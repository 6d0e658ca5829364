-- What lasts over the turns of `apart::list_kinds`.
use Rattle.version.specs.declared.Version.{Version}
use Rattle.apart.proofs.Turns.{Listing}
use Rattle.apart.proofs.list_kinds.Given as goal

abbrev pub invariant-loop-i : goal.invariant-loop-i
invariant-loop-i l = (v : Version) × Listing v l.deck l.count l.initial.kinds l.kinds l.i
