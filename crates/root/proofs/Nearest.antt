-- A root of the shape is the nearest, over whole numbers. With R = 2q * B steps, B = 2 ^ h, a number of the format below R is at most
-- (2q - 1) * B, and one above it at least (2q + 2) * B. Squared, the sums lie below and above four times the radicand: if s is even, it is
-- 2q, and the square of 2s * B is not above that; if s is odd, it is 2q - 1, no power of two, and its square is below the radicand.
use mathlib.Core.Path.{◌≡◌, refl, sym, ap, ◌∙◌, subst}
use mathlib.Core.Logic.{◌⊎◌, inl, inr, ⊎_elim}
use mathlib.Core.Bool.{Bool, true, false, not}
use Prim.Native.Nat.{ℕ, suc, ◌+◌, ◌-◌, ◌*◌, ◌/◌, ◌%◌, ◌^◌, ◌≤◌, ◌<◌}
use native.Mathlib.Nat.{le_trans, le_of_eq, lt_of_lt_of_le, lt_of_le_of_lt, eq-or-lt_of_le, eq-zero-or-pos, add-zero, sub-le, mul_assoc, mul-pos, mul-le-mul_right, mul-le-mul_left, lt_of_mul-lt-mul_right, mul-lt-mul_of_pos_right, mul-lt-mul_of_pos_left}
use native.Mathlib.Omega.{arith}
use lib.Dec.{T, ltb, ltb→lt, nltb→le}
use lib.Pow.{pow-add, pow_pos, pow_mono}
use lib.Ieee.{Float, binary64, lt}
use lib.Ieee.Scale.{overflow}
use Rattle.exact.specs.Numbers.{nought, Number, is_minus, steps}
use Rattle.exact.proofs.Steps.{Moved, moved}
use Rattle.exact.proofs.Order.{place, lt_place, plus_lt}
use Rattle.exact.proofs.Zero.{nought_number, nought_steps, positive_is}
use Rattle.root.specs.Root.{radicand, sum_in_steps, Nearest}
use Rattle.root.proofs.Whole.{square_le, square_lt, leading, no_odd_square, pow_next, pow_double}
use Rattle.root.proofs.Shape.{Shape}

-- ---- the neighbours of q * 2 ^ (h + 1), for a q of 53 digits

-- a significand moved up by more than h is a multiple of 2 * B; by h at most, it is at most (2 ^ 53 - 1) * B
kind : (n h : ℕ) → Moved binary64 n → ((z : ℕ) × (n ≡ z * (2 * 2 ^ h))) ⊎ (n + 2 ^ h ≤ 2 ^ 53 * 2 ^ h)
kind n h m = go (ltb h m.places) (ltb→lt h m.places) (nltb→le h m.places)
  where
    apart : h < m.places → m.places ≡ m.places - (h + 1) + (h + 1)
    apart l = omega arith

    go : (t : Bool) → (T t → h < m.places) → (T (not t) → m.places ≤ h) → ((z : ℕ) × (n ≡ z * (2 * 2 ^ h))) ⊎ (n + 2 ^ h ≤ 2 ^ 53 * 2 ^ h)
    go true a b = inl (
      m.significand * 2 ^ (m.places - (h + 1)),
      m.is
          ∙ ap (λ (p : ℕ). m.significand * 2 ^ p) (apart (a tt))
          ∙ ap (λ (p : ℕ). m.significand * p) (pow-add 2 (m.places - (h + 1)) (h + 1) ∙ ap (λ (p : ℕ). 2 ^ (m.places - (h + 1)) * p) (pow_next h))
          ∙ sym (mul_assoc m.significand (2 ^ (m.places - (h + 1))) (2 * 2 ^ h)),
    )
    go false a b =
        let l : n ≤ m.significand * 2 ^ h = le_trans (le_of_eq m.is) (mul-le-mul_left m.significand (pow_mono (b tt))) in
        let k : suc m.significand * 2 ^ h ≤ 2 ^ 53 * 2 ^ h = mul-le-mul_right (2 ^ h) m.few in
        inr (omega arith)

module _ (n q B : ℕ) (digits : 2 ^ 52 ≤ q) (k : ((z : ℕ) × (n ≡ z * (2 * B))) ⊎ (n + B ≤ 2 ^ 53 * B)) where
  reach : 2 ^ 52 * (2 * B) ≤ q * (2 * B)
  reach = mul-le-mul_right (2 * B) digits

  below_it : n < q * (2 * B) → (n + 2 * B ≤ q * (2 * B)) ⊎ (n + B ≤ 2 ^ 53 * B)
  below_it l =
      elim k [
        | inl z ↦ let m : suc z.0 * (2 * B) ≤ q * (2 * B) = mul-le-mul_right (2 * B) (lt_of_mul-lt-mul_right (2 * B) (lt_of_le_of_lt (le_of_eq (sym z.1)) l)) in inl (omega (arith, z.1))
        | inr m ↦ inr m
      ]

  below_by_half : n < q * (2 * B) → n + B ≤ q * (2 * B)
  below_by_half l = ⊎_elim (λ m. omega arith) (λ m. omega (arith, reach)) (below_it l)

  below_by_one : 2 ^ 52 < q → n < q * (2 * B) → n + 2 * B ≤ q * (2 * B)
  below_by_one more l = ⊎_elim (λ m. m) (λ m. omega (arith, mul-le-mul_right (2 * B) more)) (below_it l)

  above_by_one : q * (2 * B) < n → q * (2 * B) + 2 * B ≤ n
  above_by_one l =
      elim k [
        | inl z ↦ let m : suc q * (2 * B) ≤ z.0 * (2 * B) = mul-le-mul_right (2 * B) (lt_of_mul-lt-mul_right (2 * B) (lt_of_lt_of_le l (le_of_eq z.1))) in omega (arith, z.1)
        | inr m ↦ omega (arith, reach)
      ]

-- ---- the squares, compared with four times the radicand M * (B * B)

square_of_double : (s B : ℕ) → 2 * (s * B) * (2 * (s * B)) ≡ 4 * (s * s * (B * B))
square_of_double s B = omega arith

twice : (q B : ℕ) → 2 * q * B ≡ q * (2 * B)
twice q B = omega arith

module _ (n q s B M : ℕ) (b : 0 < B) where
  -- s is 2q: the sum is less than 2s * B
  even_below : s ≡ 2 * q → s * s ≤ M → n + B ≤ q * (2 * B) → (q * (2 * B) + n) * (q * (2 * B) + n) < 4 * (M * (B * B))
  even_below e w l =
      let double : s * B ≡ q * (2 * B) = ap (λ (k : ℕ). k * B) e ∙ twice q B in
      let t : q * (2 * B) + n < 2 * (s * B) = omega arith in
      lt_of_lt_of_le (square_lt t) (le_trans (le_of_eq (square_of_double s B)) (mul-le-mul_left 4 (mul-le-mul_right (B * B) w)))

  -- s is 2q - 1: the sum is at most 2s * B, and s is not the exact root
  odd_below : suc s ≡ 2 * q → s * s < M → n + 2 * B ≤ q * (2 * B) → (q * (2 * B) + n) * (q * (2 * B) + n) < 4 * (M * (B * B))
  odd_below e w l =
      let double : suc s * B ≡ q * (2 * B) = ap (λ (k : ℕ). k * B) e ∙ twice q B in
      let t : q * (2 * B) + n ≤ 2 * (s * B) = omega arith in
      lt_of_le_of_lt (square_le t) (lt_of_le_of_lt (le_of_eq (square_of_double s B)) (mul-lt-mul_of_pos_left (mul-lt-mul_of_pos_right w (mul-pos b b)) (pow_pos 2)))

  -- either way the sum is at least 2 * (s + 1) * B
  both_above : s ≤ 2 * q → M < (s + 1) * (s + 1) → q * (2 * B) + 2 * B ≤ n → 4 * (M * (B * B)) < (q * (2 * B) + n) * (q * (2 * B) + n)
  both_above e w l =
      let double : s * B ≤ 2 * q * B = mul-le-mul_right B e in
      let t : 2 * ((s + 1) * B) ≤ q * (2 * B) + n = omega arith in
      lt_of_lt_of_le (mul-lt-mul_of_pos_left (mul-lt-mul_of_pos_right w (mul-pos b b)) (pow_pos 2)) (le_trans (le_of_eq (sym (square_of_double (s + 1) B))) (square_le t))

-- ---- the root of the shape

module _ (x r : Float) (a : Shape x r) where
  q : ℕ
  q = (a.s + 1) / 2

  R : steps binary64 r ≡ q * (2 * 2 ^ a.h)
  unfolding q
  R = a.is ∙ ap (λ (n : ℕ). (a.s + 1) / 2 * n) (pow_next a.h)

  four : 4 * radicand x ≡ 4 * (a.v * 2 ^ 54 * (2 ^ a.h * 2 ^ a.h))
  unfolding radicand
  four = ap (λ (n : ℕ). 4 * n) (a.form.same ∙ ap (λ (n : ℕ). a.v * 2 ^ 54 * n) (pow_double a.h))

  least : 2 ^ 53 ≤ a.s
  least = leading a.v a.s a.form.least a.whole

  digits : 2 ^ 52 ≤ q
  unfolding q
  digits = omega (arith, least)

  even_or_odd : (a.s ≡ 2 * q) ⊎ ((suc a.s ≡ 2 * q) × (2 ^ 52 < q) × (a.s % 2 ≡ 1))
  unfolding q
  even_or_odd = elim (eq-zero-or-pos (a.s % 2)) [ inl z ↦ inl (omega arith) | inr o ↦ inr (omega (arith, least)) ]

  -- an odd s is no exact root
  not_exact : a.s % 2 ≡ 1 → a.s * a.s < a.v * 2 ^ 54
  not_exact o = elim (eq-or-lt_of_le a.whole.low) [ inl e ↦ absurd (odd_even (a.s % 2) o (no_odd_square a.v a.s e)) | inr l ↦ l ]
    where
      odd_even : (n : ℕ) → n ≡ 1 → n ≡ 0 → ⊥
      odd_even n h k = omega arith

  module _ (y : Float) (k : Number binary64 y) where
    near : ((z : ℕ) × (steps binary64 y ≡ z * (2 * 2 ^ a.h))) ⊎ (steps binary64 y + 2 ^ a.h ≤ 2 ^ 53 * 2 ^ a.h)
    near = kind (steps binary64 y) a.h (moved binary64 y k.0)

    size_below : steps binary64 y < steps binary64 r → (steps binary64 r + steps binary64 y) * (steps binary64 r + steps binary64 y) < 4 * radicand x
    size_below l =
        let m = rw R at l in
        rw (R, four)
        (⊎_elim
        (λ e. even_below (steps binary64 y) q a.s (2 ^ a.h) (a.v * 2 ^ 54) (pow_pos a.h) e a.whole.low (below_by_half (steps binary64 y) q (2 ^ a.h) digits near m))
        (λ o. odd_below (steps binary64 y) q a.s (2 ^ a.h) (a.v * 2 ^ 54) (pow_pos a.h) o.0 (not_exact o.2) (below_by_one (steps binary64 y) q (2 ^ a.h) digits near o.1 m))
        even_or_odd)

    size_above : steps binary64 r < steps binary64 y → 4 * radicand x < (steps binary64 r + steps binary64 y) * (steps binary64 r + steps binary64 y)
    unfolding q
    size_above l =
        rw (R, four)
        (both_above (steps binary64 y) q a.s (2 ^ a.h) (a.v * 2 ^ 54) (pow_pos a.h) (omega arith) a.whole.high (above_by_one (steps binary64 y) q (2 ^ a.h) digits near (rw R at l)))

  some : 0 < steps binary64 r
  some = subst (λ (n : ℕ). 0 < n) (sym R) (mul-pos (lt_of_lt_of_le (pow_pos 52) digits) (mul-pos (pow_pos 1) (pow_pos a.h)))

  -- what is minus lies below, and no nearer than 0
  minus_below : (n : ℕ) → (steps binary64 r - n) * (steps binary64 r - n) < 4 * radicand x
  minus_below n =
      let zero-below : (steps binary64 r + 0) * (steps binary64 r + 0) < 4 * radicand x = rw nought_steps at (size_below nought nought_number (rw nought_steps some)) in
      lt_of_le_of_lt (square_le (le_trans (sub-le (steps binary64 r) n) (le_of_eq (sym (add-zero (steps binary64 r)))))) zero-below

  not_above : (y : Float) → Number binary64 y → is_minus y ≡ true → T (lt r y) → ⊥
  unfolding place
  not_above y k m t = past (overflow binary64) (steps binary64 r) (steps binary64 y) (rw (a.plus, m) at ((lt_place binary64 r y a.number k).0 t))
    where
      past : (o b c : ℕ) → o + b < o - c → ⊥
      past o b c l = omega arith

  below_root : (y : Float) → Number binary64 y → T (lt y r) → (s : Bool) → is_minus y ≡ s → sum_in_steps y r * sum_in_steps y r < 4 * radicand x
  unfolding sum_in_steps
  below_root y k t true m = rw m (minus_below (steps binary64 y))
  below_root y k t false m = rw m (size_below y k ((plus_lt binary64 y r k a.number m a.plus).0 t))

  above_root : (y : Float) → Number binary64 y → T (lt r y) → (s : Bool) → is_minus y ≡ s → 4 * radicand x < sum_in_steps y r * sum_in_steps y r
  unfolding sum_in_steps
  above_root y k t true m = absurd (not_above y k m t)
  above_root y k t false m = rw m (size_above y k ((plus_lt binary64 r y a.number k a.plus m).0 t))

  pub is_nearest : Nearest x r
  is_nearest = record {
    number = a.number;
    positive = (positive_is r a.number).1 (a.plus, some);
    below = λ y k t. below_root y k t (is_minus y) refl;
    above = λ y k t. above_root y k t (is_minus y) refl;
  }
