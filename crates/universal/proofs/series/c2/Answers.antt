-- `series::c2` meets its contract: antt computes the definition's table, entry by entry, and finds the code's.
use lib.Ieee.{round, of_bits}
use Rattle.universal.specs.Series.{coefficients, series_of}
use Rattle.universal.proofs.series.c2.Goals as goal

pub returns : goal.returns
unfolding round of_bits coefficients series_of
returns c = c.ranged.ensures
