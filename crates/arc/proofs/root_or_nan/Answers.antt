-- `arc::root_or_nan` meets its contract: what the root says, or NaN.
use mathlib.Core.Path.{◌≡◌, refl, ap, ◌∙◌}
use lib.Ieee.{Float, nan, div, of_bits}
use Rattle.std.specs.Prelude.{Result, Ok, Err}
use Rattle.std.specs.Result.{result_unwrap_or}
use Rattle.root.specs.declared.Reason.{Reason}
use Rattle.root.specs.Said.{said}
use Rattle.arc.specs.Arc.{or_nan, root_or_nan}
use Rattle.arc.proofs.root_or_nan.Goals as goal

given : (a : Result Float Reason) → result_unwrap_or a nan ≡ or_nan (said a)
given (Ok r) = refl
given (Err why) = refl

pub returns : goal.returns
unfolding div of_bits root_or_nan
returns c = c.unwrap_or.ensures ∙ given c.root.result ∙ ap or_nan c.root.ensures
