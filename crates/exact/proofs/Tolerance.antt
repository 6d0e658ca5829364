-- What `near` says of the exact gap, and the other way round. Near: the gap is at most 2^-36 + 2^-89, half a unit in the last place more
-- than the tolerance, since a gap beyond that lies nearer to the next number up (`beyond`). A gap of at most 2^-36 rounds to no more.
use mathlib.Core.Path.{◌≡◌, refl, subst}
use mathlib.Core.Logic.{◌↔◌}
use mathlib.Core.Bool.{true, false}
use Prim.Native.Nat.{ℕ, suc, ◌+◌, ◌-◌, ◌*◌, ◌^◌, ◌≤◌, ◌<◌}
use native.Mathlib.Nat.{mul-le-mul_right}
use native.Mathlib.Omega.{arith}
use lib.Dec.{T}
use lib.Pow.{pow_pos}
use lib.Ieee.{Float, nan, inf, fin, binary64, low, fits, neg, add, sub, lt, eq, le, of_bits}
use lib.Ieee.Fits.{sub-fits}
use lib.Ieee.Bits.{of_bits-fits}
use Rattle.exact.specs.Numbers.{◌⊖◌, number_of, tolerance, is_finite, Number, magnitude, is_near, is_minus, steps, distance, gap, in_steps, most_gap}
use Rattle.exact.proofs.Compare.{bounded_finite}
use Rattle.exact.proofs.Basics.{not_below}
use Rattle.exact.proofs.Rounding.{rounded, nothing_nearer, rounded_le}
use Rattle.exact.proofs.Order.{plus_le, round_le}
use Rattle.exact.proofs.Arithmetic.{sub_magnitude}
use Rattle.exact.proofs.Signs.{magnitude_plus}
use Rattle.exact.proofs.Most.{AtMost}

-- ---- near numbers are finite

pub near_finite : (x y : Float) → T (is_near x y) → T (is_finite x) × T (is_finite y)
unfolding is_near sub add neg magnitude le lt eq of_bits
near_finite nan y h = absurd h
near_finite (inf s) nan h = absurd h
near_finite (inf true) (inf true) h = absurd h
near_finite (inf true) (inf false) h = absurd h
near_finite (inf false) (inf true) h = absurd h
near_finite (inf false) (inf false) h = absurd h
near_finite (inf s) (fin t n d) h = absurd h
near_finite (fin s m e) nan h = absurd h
near_finite (fin s m e) (inf t) h = absurd h
near_finite (fin s m e) (fin t n d) h = (tt, tt)

-- and so is their difference
near_difference : (x y : Float) → T (is_near x y) → T (is_finite (x ⊖ y))
unfolding is_near of_bits
near_difference x y h = bounded_finite (x ⊖ y) tolerance tt h

-- ---- the tolerance, and the number next above it

abbrev next : Float
next = number_of 0x3db0_0000_0000_0001

tolerance_number : Number binary64 tolerance
unfolding fits of_bits
tolerance_number = (tt, tt)

tolerance_plus : is_minus tolerance ≡ false
unfolding of_bits
tolerance_plus = refl

in_steps_pos : 0 < in_steps 89
unfolding in_steps
in_steps_pos = pow_pos (1074 - 89)

tolerance_steps : steps binary64 tolerance ≡ in_steps 36
unfolding steps of_bits in_steps
tolerance_steps = refl

-- the difference of near numbers, without its sign, is at most the tolerance
pub near_most : (x y : Float) → T (is_near x y) → AtMost (in_steps 36) (magnitude (x ⊖ y))
unfolding is_near
near_most x y h =
    let p = magnitude_plus (x ⊖ y) (sub-fits binary64 x y, near_difference x y h) in
    record { plus = p; most = rw tolerance_steps at ((plus_le binary64 (magnitude (x ⊖ y)) tolerance p.0 tolerance_number p.1 tolerance_plus).0 h) }

next_steps : steps binary64 next ≡ in_steps 36 + (in_steps 89 + in_steps 89)
unfolding steps of_bits in_steps
next_steps = refl

-- ---- the binary64 comparison, as one of whole numbers

-- A is the tolerance, A + B midway to the next number: beyond that, the next number is the nearer
beyond : (g G A B L : ℕ) → 0 < B → 0 < L → g ≤ A → distance (g * L) (G * L) ≤ distance ((A + (B + B)) * L) (G * L) → A + B < G → ⊥
beyond g G A B L b l h d far =
    let p : g * L ≤ A * L = mul-le-mul_right L h in
    let q : suc (A + B) * L ≤ G * L = mul-le-mul_right L far in
    let r : 1 * L ≤ B * L = mul-le-mul_right L b in
    omega arith

module _ (x y : Float) (h : Number binary64 x) (k : Number binary64 y) where
  L : ℕ
  L = 2 ^ low binary64

  near_rounded : T (is_near x y) ↔ (rounded binary64 (gap binary64 x y) L ≤ in_steps 36)
  unfolding is_near L
  near_rounded =
      rw (sub_magnitude binary64 x y h k, ← tolerance_steps) (round_le binary64 (gap binary64 x y) L tolerance tolerance_number tolerance_plus)

  pub near_of_gap : gap binary64 x y ≤ in_steps 36 → T (is_near x y)
  unfolding L
  near_of_gap l =
      near_rounded.1
      (subst (λ (n : ℕ). rounded binary64 (gap binary64 x y) L ≤ n) tolerance_steps
      (rounded_le binary64 (gap binary64 x y) L tolerance (pow_pos (low binary64)) tolerance_number.0 (mul-le-mul_right L (rw tolerance_steps l))))

  pub gap_of_near : T (is_near x y) → gap binary64 x y ≤ most_gap
  unfolding L
  gap_of_near t = not_below (beyond (rounded binary64 (gap binary64 x y) L) (gap binary64 x y) (in_steps 36) (in_steps 89) L in_steps_pos (pow_pos (low binary64)) (near_rounded.0 t)
      (subst (λ (n : ℕ). distance (rounded binary64 (gap binary64 x y) L * L) (gap binary64 x y * L) ≤ distance (n * L) (gap binary64 x y * L)) next_steps
      (nothing_nearer binary64 (gap binary64 x y) L next (pow_pos (low binary64)) (of_bits-fits binary64 0x3db0_0000_0000_0001))))

-- ---- the bound is reached: 2^-36 and -2^-89 are near, and their exact gap is 2^-36 + 2^-89

pub bound_reached : (is_near tolerance (number_of 0xba60_0000_0000_0000) ≡ true) × (gap binary64 tolerance (number_of 0xba60_0000_0000_0000) ≡ most_gap)
unfolding is_near sub le gap steps magnitude in_steps of_bits
bound_reached = (refl, refl)
