-- A residual is at most 2^988 s: a difference of at most 2^-36, times a unit below 2^1024. Up to 256 times that bound is a binary64 number, so that
-- sums of as many residuals are not rounded past it.
use mathlib.Core.Path.{◌≡◌, refl}
use Prim.Native.Nat.{ℕ, ◌+◌, ◌*◌, ◌^◌, ◌≤◌}
use native.Mathlib.Nat.{le_trans, le_of_eq, le_of_lt, lt_of_le_of_lt, mul-le-mul, mul-le-mul_right, one-mul}
use native.Mathlib.Omega.{arith}
use lib.Dec.{T, lit<}
use lib.Ieee.{Float, binary64, low}
use lib.Ieee.Scale.{overflow}
use Rattle.exact.specs.Numbers.{is_near, in_steps}
use Rattle.exact.proofs.Steps.{steps_lt}
use Rattle.exact.proofs.Signs.{Plus}
use Rattle.exact.proofs.Tolerance.{near_most}
use Rattle.exact.proofs.Most.{AtMost, Held, mul_most}
use Rattle.compared.specs.Compared.{in_seconds, most_exponent, most_residual}

-- n times the bound is a binary64 number
pub times_held : (n : ℕ) → n ≤ 256 → Held (n * most_residual)
unfolding most_residual
times_held n h = (record { significand = n; places = most_exponent + 1074; few = omega arith; is = refl }, lt_of_le_of_lt (mul-le-mul_right most_residual h) (lit< tt))

pub held : Held most_residual
held = rw (one-mul most_residual) at (times_held 1 (omega arith))

bound_is : in_steps 36 * overflow binary64 ≡ most_residual * 2 ^ low binary64
unfolding in_steps most_residual
bound_is = refl

pub in_seconds_most : (time t unit : Float) → T (is_near time t) → Plus unit → AtMost most_residual (in_seconds time t unit)
in_seconds_most time t unit near u =
    let d = near_most time t near in
    mul_most _ unit d.plus u most_residual held (le_trans (mul-le-mul d.most (le_of_lt (steps_lt binary64 unit u.0.0))) (le_of_eq bound_is))
