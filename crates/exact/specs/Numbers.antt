-- The numbers with which everything is written: RULES, Numbers. Definitions only.
-- A binary64 value is the library's `Float`: `nan`, `inf s`, or `fin s m e`, which is m * 2 ^ e with the sign s.
use Rattle.std.specs.Prelude.{ℕ, ◌+◌, ◌-◌, ◌*◌, ◌/◌, ◌^◌, Bool, true, false, cond, T, Float}
use Rattle.std.specs.Bool.{beq}
use Rattle.std.specs.Float.{nan, inf, fin, Format, binary64}
use Rattle.std.specs.Float.Ieee.{low, up, down, add, sub, mul, div, le, fits, of_bits, to_bits}

-- Numbers 1 and 2: each operation is rounded once, to nearest even; from the left, where no brackets stand
infixl 65 ◌⊕◌ ◌⊖◌
infixl 70 ◌⊗◌ ◌⊘◌
abbrev pub ◌⊕◌ : Float → Float → Float
◌⊕◌ x y = add binary64 x y

abbrev pub ◌⊖◌ : Float → Float → Float
◌⊖◌ x y = sub binary64 x y

abbrev pub ◌⊗◌ : Float → Float → Float
◌⊗◌ x y = mul binary64 x y

abbrev pub ◌⊘◌ : Float → Float → Float
◌⊘◌ x y = div binary64 x y

-- the word of 64 bits, and the number that it stands for; every NaN word is the one NaN
abbrev pub number_of : ℕ → Float
number_of w = of_bits binary64 w

-- the word of a number; for NaN, whose payload is kept nowhere, 7ff8000000000000
abbrev pub word_of : Float → ℕ
word_of x = to_bits binary64 x

-- constants, by their words
abbrev pub nought : Float
nought = number_of 0x0

abbrev pub one : Float
one = number_of 0x3ff0_0000_0000_0000

abbrev pub two : Float
two = number_of 0x4000_0000_0000_0000

-- 2^-36, the tolerance of scaled time (The search 2)
abbrev pub tolerance : Float
tolerance = number_of 0x3db0_0000_0000_0000

-- neither NaN nor infinite
abbrev pub is_finite : Float → Bool
is_finite nan = false
is_finite (inf s) = false
is_finite (fin s m e) = true

-- x is a finite number of the format f
abbrev pub Number : Format → Float → Type 0
Number f x = T (fits f x) × T (is_finite x)

-- |x|: the value without its sign
unfoldable pub magnitude : Float → Float
magnitude nan = nan
magnitude (inf s) = inf false
magnitude (fin s m e) = fin false m e

-- |x - y| ≤ 2^-36, subtracted in binary64 and then compared
unfoldable pub is_near : Float → Float → Bool
is_near x y = le (magnitude (x ⊖ y)) tolerance

-- the middle of two numbers (The search)
abbrev pub middle : Float → Float → Float
middle lo hi = lo ⊕ (hi ⊖ lo) ⊘ two

-- ---- Numbers 6: a finite binary64 number is a whole number of steps of 2^-1074, and exact differences are said in them

-- whether the sign is minus
abbrev pub is_minus : Float → Bool
is_minus nan = false
is_minus (inf s) = s
is_minus (fin s m e) = s

-- how many steps of the format's smallest value (2^-1074) a finite number is, without its sign
unfoldable pub steps : Format → Float → ℕ
steps f nan = 0
steps f (inf s) = 0
steps f (fin s m e) = m * up e * 2 ^ low f / down e

-- the difference of two whole numbers, the larger less the smaller
abbrev pub distance : ℕ → ℕ → ℕ
distance a b = a - b + (b - a)

-- the exact difference of two finite numbers, without its sign, in steps: |±a - ±b|
unfoldable pub gap : Format → Float → Float → ℕ
unfolding steps
gap f x y = cond (beq (is_minus x) (is_minus y)) (distance (steps f x) (steps f y)) (steps f x + steps f y)

-- 2^-k in steps
unfoldable pub in_steps : ℕ → ℕ
in_steps k = 2 ^ (1074 - k)

-- the largest exact difference of two times whose binary64 difference is at most 2^-36 (demand 3): 2^-36 + 2^-89
abbrev pub most_gap : ℕ
most_gap = in_steps 36 + in_steps 89
