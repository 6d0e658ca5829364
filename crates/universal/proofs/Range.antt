-- Where |alpha|·x² ≤ 63.5 and |x| ≤ 64, the series' argument alpha·(x/4)² is at most 4 as computed. x/4 and its square are each at most 1025/1024
-- of the exact result and half a step, and the cube of 1025/1024 is less than 64/63.5. The last rounding costs nothing, since 4 is a number. So the
-- functions are not refused there (`small_taken`). And a series is refused exactly where |z| > 4 or z is NaN (`refused_exactly`).
use mathlib.Core.Path.{◌≡◌, refl, ap}
use mathlib.Core.Logic.{◌↔◌, ◌⊎◌, inl, inr}
use mathlib.Core.Bool.{Bool, true, false, not, true≢false}
use Prim.Native.Nat.{ℕ, ◌+◌, ◌*◌, ◌^◌, ◌≤◌, ◌<◌}
use native.Mathlib.Nat.{le_trans, lt_of_not-le, not-le_of_lt, mul-pos, mul-le-mul, mul-le-mul_left, mul-le-mul_right, le_of_mul-le-mul_right}
use native.Mathlib.Omega.{arith}
use lib.Dec.{T, T_not, not_T, leb, leb→le, nleb→lt, lit<}
use lib.Ieee.{Float, nan, inf, fin, binary64, lt, le, eq, fits, of_bits}
use lib.Ieee.Bits.{is_true, is_false, of_bits-fits}
use Rattle.exact.specs.Numbers.{◌⊗◌, ◌⊘◌, is_finite, Number, magnitude, steps, in_steps}
use Rattle.exact.proofs.Basics.{passed, failed}
use Rattle.exact.proofs.Order.{plus_le, plus_lt}
use Rattle.exact.proofs.Signs.{Plus, magnitude_plus}
use Rattle.exact.proofs.Most.{whole_held}
use Rattle.exact.proofs.Constants.{one_some}
use Rattle.exact.proofs.Coarse.{Coarse, far_below, mul_coarse, div_coarse}
use Rattle.exact.proofs.Sizes.{magnitude_le}
use Rattle.rows.specs.Rows.{pass, refuse, must}
use Rattle.universal.specs.Series.{coefficients, worked, four, in_range, out_of_range, series_of}
use Rattle.universal.specs.Functions.{argument_at}
use Rattle.universal.proofs.Worked.{Works, works}

-- |alpha|·x² ≤ 63.5 and |x| ≤ 64, in steps
pub record Small (x alpha : Float) : Type 0 where
  pub product : 2 * (steps binary64 alpha * (steps binary64 x * steps binary64 x)) ≤ 127 * (in_steps 0 * (in_steps 0 * in_steps 0))
  pub bounded : steps binary64 x ≤ 64 * in_steps 0

-- |z| ≤ 4, and the functions are not refused
abbrev pub Taken : (x alpha : Float) → Type 0
Taken x alpha = (in_range (argument_at x alpha) ≡ true) × Works x alpha

-- small too is what is no larger
pub small_within : (x y alpha : Float) → Small y alpha → steps binary64 x ≤ steps binary64 y → Small x alpha
small_within x y alpha s l = record {
  product = le_trans (mul-le-mul_left 2 (mul-le-mul_left (steps binary64 alpha) (mul-le-mul l l))) s.product;
  bounded = le_trans l s.bounded;
}

-- ---- over whole numbers: a is alpha, y and h what x/4 and its square are rounded to

-- what the half step adds to a square is little beside it, or little
cross : (x : ℕ) → 2 ^ 23 * x ≤ x * x + 2 ^ 46
cross x = go (leb (2 ^ 23) x) (leb→le (2 ^ 23) x) (nleb→lt (2 ^ 23) x)
  where
    go : (t : Bool) → (T t → 2 ^ 23 ≤ x) → (T (not t) → x < 2 ^ 23) → 2 ^ 23 * x ≤ x * x + 2 ^ 46
    go true p q = omega (arith, mul-le-mul_right x (p tt))
    go false p q = omega (arith, q tt)

square_of_quarter : (x y L : ℕ) → 0 < L → 1024 * (y * (4 * L)) ≤ 1025 * (x * L) + 512 * (4 * L) → 2 ^ 24 * (y * y) ≤ 1050626 * (x * x) + 2 ^ 47
square_of_quarter x y L some l =
    let root : 4096 * y ≤ 1025 * x + 2048 = le_of_mul-le-mul_right {k = L} (omega arith) some in
    omega (arith, mul-le-mul root root, cross x)

at_most_four : (a x y h L : ℕ) → 0 < L → 2 ^ 24 * (y * y) ≤ 1050626 * (x * x) + 2 ^ 47 → 1024 * (h * L) ≤ 1025 * (y * y) + 512 * L
    → 2 * (a * (x * x)) ≤ 127 * (L * (L * L)) → 2 ^ 50 * a ≤ L * L → a * h ≤ 4 * L * L
at_most_four a x y h L some y-near h-near product below =
    let once : L * L ≤ L * (L * L) = omega (arith, mul-le-mul_right (L * L) some) in
    le_of_mul-le-mul_right {k = L} (omega (arith, mul-le-mul_left a y-near, mul-le-mul_left a h-near, mul-le-mul_left L below)) some

-- ---- the series' argument

four_plus : Plus four
unfolding of_bits
four_plus = ((of_bits-fits binary64 0x4010_0000_0000_0000, tt), refl)

four_steps : steps binary64 four ≡ 4 * in_steps 0
unfolding steps of_bits in_steps
four_steps = refl

four_some : 0 < steps binary64 four
four_some = rw four_steps (mul-pos (lit< tt) one_some)

quarter_most : (x L : ℕ) → x ≤ 64 * L → x * L ≤ 16 * L * (4 * L)
quarter_most x L l = omega (arith, mul-le-mul_right L l)

square_most : (y L : ℕ) → y ≤ 16 * L → y * y ≤ 256 * L * L
square_most y L l = omega (arith, mul-le-mul l l)

module _ (x alpha : Float) (hx : Number binary64 x) (ha : Number binary64 alpha) (small : Small x alpha) where
  quarter : Coarse (steps binary64 x * in_steps 0) (4 * in_steps 0) (16 * in_steps 0) (x ⊘ four)
  quarter = rw four_steps at (div_coarse x four hx four_plus.0 (16 * in_steps 0) (whole_held 16 (lit< tt)) four_some (rw four_steps (quarter_most (steps binary64 x) (in_steps 0) small.bounded)))

  square : Coarse (steps binary64 (x ⊘ four) * steps binary64 (x ⊘ four)) (in_steps 0) (256 * in_steps 0) ((x ⊘ four) ⊗ (x ⊘ four))
  square = mul_coarse (x ⊘ four) (x ⊘ four) quarter.number quarter.number (256 * in_steps 0) (whole_held 256 (lit< tt)) (square_most (steps binary64 (x ⊘ four)) (in_steps 0) quarter.most)

  argument : Coarse (steps binary64 alpha * steps binary64 ((x ⊘ four) ⊗ (x ⊘ four))) (in_steps 0) (4 * in_steps 0) (argument_at x alpha)
  argument =
      let a = steps binary64 alpha in
      let y = steps binary64 (x ⊘ four) in
      let h = steps binary64 ((x ⊘ four) ⊗ (x ⊘ four)) in
      mul_coarse alpha ((x ⊘ four) ⊗ (x ⊘ four)) ha square.number (4 * in_steps 0) (whole_held 4 (lit< tt))
      (at_most_four a (steps binary64 x) y h (in_steps 0) one_some (square_of_quarter (steps binary64 x) y (in_steps 0) one_some quarter.near) square.near small.product (far_below alpha ha.0))

  in_range_lem : in_range (argument_at x alpha) ≡ true
  in_range_lem = is_true _ ((magnitude_le (argument_at x alpha) four argument.number four_plus).1 (rw four_steps argument.most))

  pub small_taken : Taken x alpha
  small_taken = (in_range_lem, works x alpha in_range_lem)

-- ---- what is refused

beyond : (z : Float) → T (fits binary64 z) → (in_range z ≡ false) ↔ ((z ≡ nan) ⊎ (lt four (magnitude z) ≡ true))
unfolding magnitude lt le eq of_bits
beyond nan w = (λ e. inl refl, λ h. refl)
beyond (inf s) w = (λ e. inr refl, λ h. refl)
beyond (fin s m e) w =
    let z = fin s m e in
    let p = magnitude_plus z (w, tt) in
    let at_most = plus_le binary64 (magnitude z) four p.0 four_plus.0 p.1 four_plus.1 in
    let above = plus_lt binary64 four (magnitude z) four_plus.0 p.0 four_plus.1 p.1 in (
      λ f. inr (is_true _ (above.1 (lt_of_not-le (λ l. T_not (in_range z) (failed f) (at_most.1 l))))),
      λ h. elim h [ inl n ↦ absurd (true≢false (ap is_finite n)) | inr l ↦ is_false (in_range z) (not_T (in_range z) (λ t. not-le_of_lt (above.0 (passed l)) (at_most.0 t))) ],
    )

pub refused_exactly : (first : ℕ) (z : Float) → T (fits binary64 z) → (series_of first z ≡ refuse out_of_range) ↔ ((z ≡ nan) ⊎ (lt four (magnitude z) ≡ true))
unfolding must series_of
refused_exactly first z w = (λ e. (beyond z w).0 (refused (in_range z) e), λ h. rw ((beyond z w).1 h) refl)
  where
    refused : (b : Bool) → must b out_of_range (pass (worked (coefficients first) z)) ≡ refuse out_of_range → b ≡ false
    refused true e = absurd (true≢false cc)
    refused false e = refl
