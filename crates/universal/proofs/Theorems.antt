-- What an answer says can be undone, so the contracts through `stated out_of_range` have one answer.
use lib.Ieee.{Float}
use Rattle.coincidence.specs.Coincidence.{OneToOne}
use Rattle.rows.specs.Rows.{stated}
use Rattle.rows.proofs.Laws.{stated_once}
use Rattle.universal.specs.declared.Functions.{Functions}
use Rattle.universal.specs.Series.{out_of_range}

pub summed_once : OneToOne (stated {A = Float} out_of_range)
summed_once = stated_once out_of_range

pub valued_once : OneToOne (stated {A = Functions} out_of_range)
valued_once = stated_once out_of_range
