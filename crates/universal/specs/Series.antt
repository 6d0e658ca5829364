-- C2 and C3: RULES, The universal functions 1 to 4 and 9. Definitions only.
use Rattle.std.specs.Prelude.{ℕ, zero, suc, ◌+◌, ◌*◌, ◌≤◌, ◌≡◌, Bool, false, cond, List, [], ◌∷◌, get_or, T, Float}
use Rattle.std.specs.Float.{nan, binary64}
use Rattle.std.specs.Float.Ieee.{round, neg, lt, le}
use Rattle.exact.specs.Numbers.{◌⊕◌, ◌⊗◌, number_of, nought, magnitude, Number, is_minus, steps, distance, in_steps}
use Rattle.rows.specs.Rows.{Checked, pass, refuse, must}
use Rattle.universal.specs.declared.series.Pair.{Pair}

-- n!
abbrev pub factorial : ℕ → ℕ
factorial zero = 1
factorial (suc n) = (n + 1) * factorial n

-- 3: the binary64 number nearest 1/n!
abbrev pub nearest_inverse : ℕ → Float
nearest_inverse n = round binary64 false 1 (factorial n)

-- `size` coefficients, from 1/n! on by every second n
abbrev pub inverses_from : (size n : ℕ) → List Float
inverses_from zero n = []
inverses_from (suc size) n = nearest_inverse n ∷ inverses_from size (n + 2)

-- a table of twelve: 1/(2k+2)! for C2, with first = 2, and 1/(2k+3)! for C3, with first = 3
unfoldable pub coefficients : (first : ℕ) → List Float
coefficients first = inverses_from 12 first

-- 2: each turn multiplies by -z and adds the coefficient before, for the k coefficients that are left
unfoldable pub worked_from : List Float → Float → (k : ℕ) → Float → Float
worked_from table z zero sum = sum
worked_from table z (suc k) sum = worked_from table z k (sum ⊗ neg z ⊕ get_or table k nan)

-- 2: from k = 11 down, with the last coefficient as the start
unfoldable pub worked : List Float → Float → Float
worked table z = worked_from table z 11 (get_or table 11 nan)

abbrev pub four : Float
four = number_of 0x4010_0000_0000_0000

-- 4: the range, |z| ≤ 4; NaN is not in it
abbrev pub in_range : Float → Bool
in_range z = le (magnitude z) four

-- 4: the refusal of what is not in it
abbrev pub out_of_range : ℕ
out_of_range = 60

-- 2 and 4: a series by its table
abbrev pub series_by : List Float → Float → Checked Float
series_by table z =
    must (in_range z) out_of_range
    (pass (worked table z))

-- 1 to 4: C2(z), with first = 2, and C3(z), with first = 3
unfoldable pub series_of : (first : ℕ) (z : Float) → Checked Float
series_of first z = series_by (coefficients first) z

-- 9: a sum that is refused stands in a time as NaN
abbrev pub sum_or_nan : Checked Float → Float
sum_or_nan (pass sum) = sum
sum_or_nan (refuse k) = nan

abbrev pub sums_or_nans : (z : Float) → Pair
sums_or_nans z = record { c2 = sum_or_nan (series_of 2 z); c3 = sum_or_nan (series_of 3 z) }

-- ---- 3, each coefficient is nearest 1/n!: over whole numbers, among all binary64 numbers

-- |y| over whole numbers: in steps of 2^-1074, and times n!
abbrev pub sized : (n : ℕ) (y : Float) → ℕ
sized n y = steps binary64 y * factorial n

-- |y - 1/n!| so; 1/n! itself is then 1 in steps
unfoldable pub off : (n : ℕ) (y : Float) → ℕ
off n y = cond (is_minus y) (sized n y + in_steps 0) (distance (sized n y) (in_steps 0))

-- r is a finite number above zero, none is nearer to 1/n!, and none but r is as near
pub record IsNearestInverse (n : ℕ) (r : Float) : Type 0 where
  pub number : Number binary64 r
  pub positive : T (lt nought r)
  pub nearest : (y : Float) → Number binary64 y → off n r ≤ off n y
  pub alone : (y : Float) → Number binary64 y → off n y ≤ off n r → y ≡ r
