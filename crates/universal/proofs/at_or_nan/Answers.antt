-- `at_or_nan` meets its contract: a quarter, doubled twice, of the sums or of NaNs.
use mathlib.Core.Path.{◌≡◌, refl, ◌∙◌}
use Rattle.exact.specs.Numbers.{◌⊘◌}
use Rattle.universal.specs.Series.{four, sums_or_nans}
use Rattle.universal.specs.Functions.{argument_at, quartered}
use Rattle.universal.proofs.Worked.{of_sums_or_nans}
use Rattle.universal.proofs.at_or_nan.Goals as goal
use Rattle.universal.proofs.at_or_nan.Goals.{After-both_or_nan-sums, After-quarter}

-- the sums at z, a quarter of x and the two sums
sums_are : (c : After-both_or_nan-sums) → c.both_or_nan-sums.result ≡ sums_or_nans (argument_at c.args.x c.args.alpha)
sums_are c = c.both_or_nan-sums.ensures

quarter_is : (c : After-quarter) → c.quarter.result ≡ quartered (c.args.x ⊘ four) c.args.alpha c.both_or_nan-sums.result.c2 c.both_or_nan-sums.result.c3
quarter_is c = c.quarter.ensures

pub returns : goal.returns
returns c = let args = c.args in
    rw (c.doubled-2.ensures, c.doubled.ensures, quarter_is (goal.at.returns c).After-quarter, sums_are (goal.at.returns c).After-both_or_nan-sums) refl
    ∙ of_sums_or_nans args.x args.alpha
