-- The root: RULES, Numbers 4 and 5, and refusals 1 and 13. Definitions only.
use Rattle.std.specs.Prelude.{◌≡◌, not, false, cond, ℕ, ◌+◌, ◌-◌, ◌*◌, ◌^◌, ◌<◌, T, Float}
use Rattle.std.specs.Float.{binary64}
use Rattle.std.specs.Float.Ieee.{round, lt, eq}
use Rattle.exact.specs.Numbers.{nought, is_finite, Number, is_minus, steps}
use Rattle.root.specs.Said.{Said, root, refused}
use Rattle.root.specs.Whole.{whole_root}

-- x is u steps of 2^-1074; in steps its root is the root of u * 2^1074, which lies below 4 ^ 1586
unfoldable pub radicand : Float → ℕ
radicand x = steps binary64 x * 2 ^ 1074

-- Numbers 4, the binary64 number nearest the exact root: the whole part of the root, in steps, and half a step, rounded. Midway between two
-- binary64 numbers of that size lies a whole number of steps, so the half stands on the side of it on which the root does.
unfoldable pub nearest_root : Float → Float
nearest_root x = round binary64 false (2 * whole_root 1586 (radicand x) + 1) (2 * 2 ^ 1074)

-- root, for every input
unfoldable pub root_of : Float → Said
root_of x = cond (is_finite x) (cond (lt x nought) (refused 13) (cond (eq x nought) (root x) (root (nearest_root x)))) (refused 1)

-- ---- Numbers 5: nearest, over whole numbers, by comparing squares

-- y + r in steps, for an r above zero; 0 where the sum is below zero
unfoldable pub sum_in_steps : Float → Float → ℕ
sum_in_steps y r = cond (is_minus y) (steps binary64 r - steps binary64 y) (steps binary64 r + steps binary64 y)

-- No finite binary64 number y is as near the exact root of x as r is: if y lies below r, the middle of the two lies below the root, and
-- if y lies above r, above it. The middle is (y + r) / 2, and its square is compared with the radicand.
pub record Nearest (x r : Float) : Type 0 where
  pub number : Number binary64 r
  pub positive : T (lt nought r)
  pub below : (y : Float) → Number binary64 y → T (lt y r) → sum_in_steps y r * sum_in_steps y r < 4 * radicand x
  pub above : (y : Float) → Number binary64 y → T (lt r y) → 4 * radicand x < sum_in_steps y r * sum_in_steps y r

-- what s has to be, for every input x
pub record IsRoot (x : Float) (s : Said) : Type 0 where
  pub not_finite : T (not (is_finite x)) → s ≡ refused 1
  pub below_zero : T (is_finite x) → T (lt x nought) → s ≡ refused 13
  pub at_zero : T (eq x nought) → s ≡ root x
  pub above_zero : T (is_finite x) → T (lt nought x) → (r : Float) × (s ≡ root r) × Nearest x r
