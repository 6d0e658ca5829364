-- What numbers state can be undone, so `named_said` and `given_said` are one to one, and the contracts of `named` and `given` have one answer.
use Rattle.coincidence.specs.Coincidence.{OneToOne}
use Rattle.rows.proofs.Laws.{stated_once}
use Rattle.version.specs.Version.{named_said, given_said}

pub named_once : OneToOne named_said
named_once = stated_once 31

pub given_once : OneToOne given_said
given_once = stated_once 42
