-- `series::both_or_nan` meets its contract: antt computes the definition's tables, entry by entry, and finds the code's.
use mathlib.Core.Path.{refl}
use lib.Ieee.{round, of_bits}
use Rattle.universal.specs.Series.{coefficients, series_of}
use Rattle.universal.proofs.series.both_or_nan.Goals as goal

pub returns : goal.returns
unfolding round of_bits coefficients series_of
returns c = rw (c.or_nan.ensures, c.or_nan-2.ensures) refl
