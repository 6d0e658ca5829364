-- The least number above zero is one step: what rounds from a step or more is above zero, and so is a quotient of a step or more.
use mathlib.Core.Path.{◌≡◌, refl}
use mathlib.Core.Bool.{false}
use Prim.Native.Nat.{ℕ, ◌*◌, ◌^◌, ◌≤◌, ◌<◌}
use native.Mathlib.Nat.{le_trans, le_of_eq, one-mul}
use lib.Dec.{T}
use lib.Ieee.{Float, binary64, low, round, of_bits}
use lib.Ieee.Bits.{of_bits-fits}
use Rattle.exact.specs.Numbers.{number_of, is_finite, Number, steps, ◌⊘◌}
use Rattle.exact.proofs.Rounding.{rounded, rounded_ge, round_steps, round_finite}
use Rattle.exact.proofs.Arithmetic.{div_steps}
use Rattle.exact.proofs.Signs.{Plus}

abbrev pub step : Float
step = number_of 0x1

pub step_number : Number binary64 step
unfolding of_bits
step_number = (of_bits-fits binary64 0x1, tt)

pub step_steps : steps binary64 step ≡ 1
unfolding steps of_bits
step_steps = refl

pub not_to_zero : (a c : ℕ) → 0 < c → c ≤ a * 2 ^ low binary64 → 0 < rounded binary64 a c
not_to_zero a c h l = rw step_steps at (rounded_ge binary64 a c step h step_number.0 (rw step_steps (le_trans (le_of_eq (one-mul c)) l)))

-- so is a quotient that is finite
pub div_some : (x y : Float) → Plus x → Plus y → 0 < steps binary64 y → steps binary64 y ≤ steps binary64 x * 2 ^ low binary64 → T (is_finite (x ⊘ y)) → 0 < steps binary64 (x ⊘ y)
div_some x y p q some l finite =
    let a = steps binary64 x in
    let c = steps binary64 y in
    let is : x ⊘ y ≡ round binary64 false a c = rw (p.1, q.1) at (div_steps binary64 x y p.0 q.0 some) in
    rw (is, (round_steps binary64 false a c (round_finite binary64 false a c (rw is at finite))).0) (not_to_zero a c some l)
