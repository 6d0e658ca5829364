-- The functions at 0 are 1, 0, 0 and 0, and the time there is 0, exactly. Only alpha and s are not known, and each is only ever multiplied
-- by 0, which leaves a zero of its sign (`times_nought`). What is left are computations with closed numbers.
use mathlib.Core.Path.{◌≡◌, refl}
use mathlib.Core.Bool.{Bool, true, false}
use lib.Ieee.{Float, binary64, round, mul, div, add, sub, neg, lt, le, eq, of_bits}
use Rattle.exact.specs.Numbers.{◌⊕◌, ◌⊖◌, ◌⊗◌, ◌⊘◌, nought, one, two, magnitude, Number}
use Rattle.exact.proofs.Zero.{zero, times_nought}
use Rattle.rows.specs.Rows.{pass, must, onward}
use Rattle.universal.specs.Series.{four, in_range, coefficients, worked_from, worked, series_of}
use Rattle.universal.specs.Functions.{functions_at, time_of, or_nans}

-- ---- the closed numbers, for a zero of either sign

quarter_of_nought : nought ⊘ four ≡ nought
unfolding div of_bits
quarter_of_nought = refl

square_of_nought : nought ⊗ nought ≡ nought
unfolding mul of_bits
square_of_nought = refl

zero_in_range : (s : Bool) → in_range (zero s) ≡ true
unfolding zero magnitude le lt eq of_bits
zero_in_range true = refl
zero_in_range false = refl

times_c2 : (s : Bool) → nought ⊗ worked (coefficients 2) (zero s) ≡ nought
unfolding zero coefficients worked_from worked mul add neg round of_bits
times_c2 true = refl
times_c2 false = refl

times_c3 : (s : Bool) → nought ⊗ worked (coefficients 3) (zero s) ≡ nought
unfolding zero coefficients worked_from worked mul add neg round of_bits
times_c3 true = refl
times_c3 false = refl

one_less_zero : (s : Bool) → one ⊖ zero s ≡ one
unfolding zero sub of_bits
one_less_zero true = refl
one_less_zero false = refl

nought_less_zero : (s : Bool) → nought ⊖ zero s ≡ nought
unfolding zero sub of_bits
nought_less_zero true = refl
nought_less_zero false = refl

nought_plus_zero : (s : Bool) → nought ⊕ zero s ≡ nought
unfolding zero add of_bits
nought_plus_zero true = refl
nought_plus_zero false = refl

nought_plus_nought : nought ⊕ nought ≡ nought
unfolding add of_bits
nought_plus_nought = refl

two_noughts : two ⊗ nought ≡ nought
unfolding mul of_bits
two_noughts = refl

two_ones_nought : two ⊗ one ⊗ nought ≡ nought
unfolding mul of_bits
two_ones_nought = refl

-- ---- the functions and the time

functions_at_zero : (alpha : Float) → Number binary64 alpha → functions_at nought alpha ≡ pass (record { u0 = one; u1 = nought; u2 = nought; u3 = nought })
unfolding must onward series_of functions_at
functions_at_zero alpha h = simp (quarter_of_nought, square_of_nought, times_nought alpha h, zero_in_range, times_c2, times_c3, one_less_zero, nought_less_zero, nought_plus_nought, two_noughts, two_ones_nought)

pub time_at_zero : (s alpha : Float) → Number binary64 s → Number binary64 alpha → time_of s (or_nans (functions_at nought alpha)) ≡ nought
time_at_zero s alpha h k = simp (functions_at_zero alpha k, times_nought s h, nought_plus_zero, nought_plus_nought)
