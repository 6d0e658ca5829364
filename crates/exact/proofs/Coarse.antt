-- How far a rounded value lies from the exact one: 2 ^ -prec of it, and half a step (`rounded_error`). For bounds with room that is more than
-- is needed, so a product and a quotient are said coarsely: at most 1025/1024 of the exact result and half a step.
use mathlib.Core.Path.{◌≡◌, sym, ap, ◌∙◌}
use mathlib.Core.Bool.{Bool}
use Prim.Native.Nat.{ℕ, ◌+◌, ◌-◌, ◌*◌, ◌^◌, ◌≤◌, ◌<◌}
use native.Mathlib.Nat.{le_trans, le_of_eq, le_of_lt, lt_of_le_of_lt, sub-add_cancel, mul_assoc, mul-pos, mul-le-mul_left, mul-le-mul_right, le_of_mul-le-mul_right}
use native.Mathlib.Omega.{arith}
use lib.Dec.{T, lit≤}
use lib.Pow.{pow-add}
use lib.Ieee.{Float, Format, binary64, prec, low, fits, unlike, round}
use lib.Ieee.Fits.{two, two-le_pos, round-fits}
use Rattle.exact.specs.Numbers.{◌⊗◌, ◌⊘◌, Number, is_minus, steps, distance, in_steps}
use Rattle.exact.proofs.Steps.{steps_lt}
use Rattle.exact.proofs.Rounding.{rounded, half_unit, units_most, few_le, round_steps}
use Rattle.exact.proofs.Arithmetic.{mul_steps, div_steps}
use Rattle.exact.proofs.Constants.{one_some}
use Rattle.exact.proofs.Most.{Held}

-- ---- the error of one rounding

-- c on both sides, so that nothing is divided
pub rounded_error : (f : Format) (a c : ℕ) → 0 < c → 2 ^ prec f * distance (rounded f a c * c) (a * 2 ^ low f) ≤ a * 2 ^ low f + 2 ^ (prec f - 1) * c
rounded_error f a c h =
    let p = 2 ^ (prec f - 1) in
    let d = distance (rounded f a c * c) (a * 2 ^ low f) in
    let twice : 2 ^ prec f ≡ p * 2 = ap (λ (n : ℕ). 2 ^ n) (sym (sub-add_cancel (two-le_pos (prec f) (two f)))) ∙ pow-add 2 (prec f - 1) 1 in
    le_trans (le_of_eq (ap (λ (n : ℕ). n * d) twice ∙ mul_assoc p 2 d)) (le_trans (mul-le-mul_left p (half_unit f a c h)) (units_most f a c h))

-- ---- one rounding, coarsely

-- z is n / c steps, rounded, and at most m
pub record Coarse (n c m : ℕ) (z : Float) : Type 0 where
  pub number : Number binary64 z
  pub near : 1024 * (steps binary64 z * c) ≤ 1025 * n + 512 * c
  pub most : steps binary64 z ≤ m

coarsely : (v n c : ℕ) → 2 ^ 53 * distance (v * c) n ≤ n + 2 ^ 52 * c → 1024 * (v * c) ≤ 1025 * n + 512 * c
coarsely v n c h = omega arith

round_coarse : (s : Bool) (a c m : ℕ) → 0 < c → Held m → a * 2 ^ low binary64 ≤ m * c → Coarse (a * 2 ^ low binary64) c m (round binary64 s a c)
round_coarse s a c m C h l =
    let most = few_le binary64 a c m C h.0 l in
    let v = round_steps binary64 s a c (lt_of_le_of_lt most h.1) in
    record {
      number = (round-fits binary64 s a c, v.2);
      near = rw v.0 (coarsely (rounded binary64 a c) (a * 2 ^ low binary64) c (rounded_error binary64 a c C));
      most = rw v.0 most;
    }

-- ---- a product and a quotient, in steps of which in_steps 0 are one

less_factor : (v n L : ℕ) → 0 < L → 1024 * (v * (L * L)) ≤ 1025 * (n * L) + 512 * (L * L) → 1024 * (v * L) ≤ 1025 * n + 512 * L
less_factor v n L l h = le_of_mul-le-mul_right {k = L} (omega arith) l

module _ (x y : Float) (h : Number binary64 x) (k : Number binary64 y) (m : ℕ) (held : Held m) where
  pub mul_coarse : steps binary64 x * steps binary64 y ≤ m * in_steps 0 → Coarse (steps binary64 x * steps binary64 y) (in_steps 0) m (x ⊗ y)
  unfolding in_steps
  mul_coarse l =
      let L = in_steps 0 in
      let n = steps binary64 x * steps binary64 y in
      let z = round_coarse (unlike (is_minus x) (is_minus y)) n (L * L) m (mul-pos one_some one_some) held (le_trans (mul-le-mul_right L l) (le_of_eq (mul_assoc m L L))) in
      rw (mul_steps binary64 x y h k) (record { number = z.number; near = less_factor _ n L one_some z.near; most = z.most })

  pub div_coarse : 0 < steps binary64 y → steps binary64 x * in_steps 0 ≤ m * steps binary64 y → Coarse (steps binary64 x * in_steps 0) (steps binary64 y) m (x ⊘ y)
  unfolding in_steps
  div_coarse some l = rw (div_steps binary64 x y h k some) (round_coarse (unlike (is_minus x) (is_minus y)) (steps binary64 x) (steps binary64 y) m some held l)

-- ---- the half steps don't count beside 1

-- the steps of any number are far fewer than those of 1 squared
pub far_below : (x : Float) → T (fits binary64 x) → 2 ^ 50 * steps binary64 x ≤ in_steps 0 * in_steps 0
unfolding in_steps
far_below x w = le_trans (mul-le-mul_left (2 ^ 50) (le_of_lt (steps_lt binary64 x w))) (lit≤ tt)
