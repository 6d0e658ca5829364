-- The functions are not refused at half of an angle that Theta takes (`half_works`): |a| ≤ 6.25, so half of it is at most 4 as computed, and its
-- square at most 16 (universal's `Small`).
use mathlib.Core.Path.{◌≡◌, refl}
use mathlib.Core.Bool.{true}
use Prim.Native.Nat.{ℕ, ◌*◌, ◌≤◌}
use native.Mathlib.Nat.{mul-pos, mul-le-mul, mul-le-mul_left, mul-le-mul_right}
use native.Mathlib.Omega.{arith}
use lib.Dec.{T, lit<}
use lib.Ieee.{Float, binary64, le, fits, of_bits}
use lib.Ieee.Bits.{of_bits-fits}
use Rattle.exact.specs.Numbers.{◌⊘◌, one, two, Number, magnitude, steps, in_steps}
use Rattle.exact.proofs.Basics.{passed}
use Rattle.exact.proofs.Compare.{bounded_finite}
use Rattle.exact.proofs.Signs.{Plus}
use Rattle.exact.proofs.Most.{whole_held}
use Rattle.exact.proofs.Constants.{one_some, one_number, one_steps, two_number, two_steps}
use Rattle.exact.proofs.Coarse.{div_coarse}
use Rattle.exact.proofs.Sizes.{magnitude_le}
use Rattle.universal.proofs.Range.{Small, Taken, small_taken}
use Rattle.entry.specs.Entry.{largest_angle}

-- ---- 6.25

largest_plus : Plus largest_angle
unfolding of_bits
largest_plus = ((of_bits-fits binary64 0x4019_0000_0000_0000, tt), refl)

largest_steps : 4 * steps binary64 largest_angle ≡ 25 * in_steps 0
unfolding steps of_bits in_steps
largest_steps = refl

-- ---- half of the angle

half_most : (a l L : ℕ) → a ≤ l → 4 * l ≡ 25 * L → a * L ≤ 4 * L * (2 * L)
half_most a l L h e = let most : a ≤ 8 * L = omega arith in omega (arith, mul-le-mul_right L most)

half_square : (y L : ℕ) → y ≤ 4 * L → 2 * (L * (y * y)) ≤ 127 * (L * (L * L))
half_square y L l = let square : y * y ≤ 16 * (L * L) = omega (arith, mul-le-mul l l) in omega (arith, mul-le-mul_left L square)

half_bounded : (y L : ℕ) → y ≤ 4 * L → y ≤ 64 * L
half_bounded y L l = omega arith

half_angle_small : (a : Float) → Number binary64 a → le (magnitude a) largest_angle ≡ true → Number binary64 (a ⊘ two) × Small (a ⊘ two) one
half_angle_small a h e =
    let l = half_most (steps binary64 a) (steps binary64 largest_angle) (in_steps 0) ((magnitude_le a largest_angle h largest_plus).0 (passed e)) largest_steps in
    let half = div_coarse a two h two_number (4 * in_steps 0) (whole_held 4 (lit< tt)) (rw two_steps (mul-pos (lit< tt) one_some)) (rw two_steps l) in (
      half.number,
      record {
        product = rw one_steps (half_square (steps binary64 (a ⊘ two)) (in_steps 0) half.most);
        bounded = half_bounded (steps binary64 (a ⊘ two)) (in_steps 0) half.most;
      },
    )

pub half_works : (a : Float) → T (fits binary64 a) → le (magnitude a) largest_angle ≡ true → Taken (a ⊘ two) one
half_works a w e = let h = half_angle_small a (w, bounded_finite a largest_angle largest_plus.0.1 (passed e)) e in small_taken (a ⊘ two) one h.0 one_number h.1
