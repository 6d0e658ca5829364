-- `series::or_nan` meets its contract: the table worked, where z is in the range, or NaN.
use mathlib.Core.Path.{◌≡◌, refl, ap, ◌∙◌}
use lib.Ieee.{Float, nan, div, of_bits}
use Rattle.std.specs.Prelude.{Option, Some, None}
use Rattle.std.specs.Option.{unwrap_or}
use Rattle.rows.specs.Rows.{stated}
use Rattle.universal.specs.Series.{out_of_range, sum_or_nan}
use Rattle.universal.proofs.series.or_nan.Goals as goal

in_place : (a : Option Float) → unwrap_or a nan ≡ sum_or_nan (stated out_of_range a)
in_place (Some c) = refl
in_place None = refl

pub returns : goal.returns
unfolding div of_bits
returns c = c.unwrap_or.ensures ∙ in_place c.ranged.result ∙ ap sum_or_nan c.ranged.ensures
