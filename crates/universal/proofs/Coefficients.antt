-- Every entry of the two tables is the binary64 number nearest 1/n!, for the n that it stands for. The tables are made by one rule, and a
-- rounded fraction is nearest among all numbers of the format (exact's `nothing_nearer`). What is rounded is 1 over a whole number: at most
-- 1, so it doesn't overflow, and for the n in use more than a step, so it is above zero. No other number is as near: below n = 3 the entry is
-- 1/n! itself, and from there on n! is a multiple of 3, so that twice 1/n! is no whole number of steps, and 1/n! midway between no two.
use mathlib.Core.Path.{◌≡◌, refl, sym, ap, ◌∙◌, subst}
use mathlib.Core.Bool.{Bool, true, false}
use mathlib.Core.Logic.{◌⊎◌, inl, inr, ⊎_elim}
use Prim.Native.Nat.{ℕ, zero, suc, ◌+◌, ◌*◌, ◌%◌, ◌≤◌, ◌<◌, zero-le}
use native.Mathlib.Nat.{le_refl, le_trans, le_of_eq, le_of_lt, lt_of_lt_of_le, lt_of_le_of_lt, mul-pos, mul-le-mul_left, eq-or-lt_of_le, not-le_of_lt, mul-mod_right, one-mul, zero-add, add-mul, eq-zero-or-pos, eq_of_mul-eq-mul_right, le-add_left, mul-one}
use native.Mathlib.Omega.{arith}
use lib.Dec.{T, lit<, lit≤}
use lib.ListN.{get_or}
use lib.Ieee.{Float, nan, binary64, of_bits}
use lib.Ieee.Fits.{round-fits}
use lib.Ieee.Bits.{of_bits-fits}
use lib.Ieee.Positive.{first_pos}
use Rattle.exact.specs.Numbers.{number_of, one, is_finite, Number, is_minus, steps, distance, in_steps}
use Rattle.exact.proofs.Steps.{steps_lt, same_number}
use Rattle.exact.proofs.Rounding.{rounded, nothing_nearer, rounded_le, round_steps}
use Rattle.exact.proofs.OneStep.{step, step_number, step_steps}
use Rattle.exact.proofs.Zero.{positive_is}
use Rattle.exact.proofs.Constants.{one_number, one_steps}
use Rattle.universal.specs.Series.{factorial, nearest_inverse, inverses_from, coefficients, sized, off, IsNearestInverse}

-- ---- n!

factorial_pos : (n : ℕ) → 0 < factorial n
factorial_pos zero = lit< tt
factorial_pos (suc n) = mul-pos {m = n + 1} (omega arith) (factorial_pos n)

factorial_mono : (m n : ℕ) → m ≤ n → factorial m ≤ factorial n
factorial_mono m zero l = let z : m ≡ 0 = omega arith in rw z (le_refl 1)
factorial_mono m (suc n) l = ⊎_elim (λ e. subst (λ (k : ℕ). factorial m ≤ factorial k) e (le_refl (factorial m))) (λ k. le_trans (factorial_mono m n (omega arith)) (more n (factorial n))) (eq-or-lt_of_le l)
  where
    more : (n f : ℕ) → f ≤ (n + 1) * f
    more n f = omega arith

-- from 3! on a multiple of 3
thirds : (k : ℕ) → (d : ℕ) × (factorial (suc (suc (suc k))) ≡ 3 * d)
thirds zero = (2, refl)
thirds (suc k) = let t = thirds k in let n = suc (suc (suc k)) + 1 in (n * t.0, ap (λ (m : ℕ). n * m) t.1 ∙ moved n t.0)
  where
    moved : (n d : ℕ) → n * (3 * d) ≡ 3 * (n * d)
    moved n d = omega arith

-- ---- what 1/n! rounds to

one_is : steps binary64 one * 1 ≡ in_steps 0
one_is = mul-one (steps binary64 one) ∙ one_steps

module _ (n : ℕ) where
  at_most_one : rounded binary64 1 (factorial n) ≤ steps binary64 one
  unfolding in_steps
  at_most_one = rounded_le binary64 1 (factorial n) one (factorial_pos n) one_number.0 (le_trans (le_of_eq (sym one_is)) (mul-le-mul_left (steps binary64 one) (factorial_pos n)))

  inverse_is : (steps binary64 (nearest_inverse n) ≡ rounded binary64 1 (factorial n)) × (is_minus (nearest_inverse n) ≡ false) × T (is_finite (nearest_inverse n))
  inverse_is = round_steps binary64 false 1 (factorial n) (lt_of_le_of_lt at_most_one (steps_lt binary64 one one_number.0))

  inverse_number : Number binary64 (nearest_inverse n)
  inverse_number = (round-fits binary64 false 1 (factorial n), inverse_is.2)

  no_size_nearer : (y : Float) → Number binary64 y → distance (sized n (nearest_inverse n)) (in_steps 0) ≤ distance (sized n y) (in_steps 0)
  unfolding in_steps
  no_size_nearer y h = rw inverse_is.0 (nothing_nearer binary64 1 (factorial n) y (factorial_pos n) h.0)

-- ---- no tie: 1/n! is midway between no number and the entry, unless it is the entry

abbrev half : Float
half = number_of 0x3fe0_0000_0000_0000

half_number : Number binary64 half
unfolding of_bits
half_number = (of_bits-fits binary64 0x3fe0_0000_0000_0000, tt)

half_is : steps binary64 half * 2 ≡ in_steps 0
unfolding steps of_bits in_steps
half_is = refl

no_third : (d : ℕ) → 3 * d ≡ 2 * in_steps 0 → ⊥
unfolding in_steps
no_third d e = let z : ◌≡◌ {A = ℕ} 0 2 = sym (mul-mod_right 3 d) ∙ ap (λ (m : ℕ). m % 3) e in omega arith

-- if a number is 1/n! itself, so is the entry
exactly : (n : ℕ) (y : Float) → Number binary64 y → sized n y ≡ in_steps 0 → sized n (nearest_inverse n) ≡ in_steps 0
exactly n y h e = hit (sized n (nearest_inverse n)) (sized n y) (in_steps 0) (no_size_nearer n y h) e
  where
    hit : (a b l : ℕ) → distance a l ≤ distance b l → b ≡ l → a ≡ l
    hit a b l d e = omega arith

midway : (n a : ℕ) → (a + steps binary64 (nearest_inverse n)) * factorial n ≡ 2 * in_steps 0 → sized n (nearest_inverse n) ≡ in_steps 0
midway zero a e = exactly 0 one one_number one_is
midway (suc zero) a e = exactly 1 one one_number one_is
midway (suc (suc zero)) a e = exactly 2 half half_number half_is
midway (suc (suc (suc k))) a e =
    let t = thirds k in
    let b = a + steps binary64 (nearest_inverse (suc (suc (suc k)))) in
    absurd (no_third (b * t.0) (moved b t.0 ∙ sym (ap (λ (c : ℕ). b * c) t.1) ∙ e))
  where
    moved : (b d : ℕ) → 3 * (b * d) ≡ b * (3 * d)
    moved b d = omega arith

-- two that are equally far from l are one, or l is midway
sides : (a b l : ℕ) → distance a l ≤ distance b l → distance b l ≤ distance a l → (a ≡ b) ⊎ (a + b ≡ 2 * l)
sides a b l h k = ⊎_elim (λ z. inl (omega arith)) (λ z. inr (omega arith)) (eq-zero-or-pos (distance a b))

as_near : (n : ℕ) (y : Float) → Number binary64 y → distance (sized n y) (in_steps 0) ≤ distance (sized n (nearest_inverse n)) (in_steps 0) → steps binary64 y ≡ steps binary64 (nearest_inverse n)
as_near n y h l =
    let a = steps binary64 y in
    let b = steps binary64 (nearest_inverse n) in
    eq_of_mul-eq-mul_right (factorial n) (factorial_pos n) a b
    (⊎_elim (λ e. e) (λ e. other e (midway n a (add-mul a b (factorial n) ∙ e))) (sides (a * factorial n) (b * factorial n) (in_steps 0) l (no_size_nearer n y h)))
  where
    other : {a b l : ℕ} → a + b ≡ 2 * l → b ≡ l → a ≡ b
    other e d = omega arith

-- ---- 1/n! lies nearer to one step than to 0, for the n in use, so that the entry is not 0

largest : factorial 25 ≤ in_steps 0
unfolding in_steps
largest = lit≤ tt

nearer_than_zero : (n : ℕ) → n ≤ 25 → distance (sized n (nearest_inverse n)) (in_steps 0) < in_steps 0
nearer_than_zero n small =
    below (sized n (nearest_inverse n)) (factorial n) (in_steps 0) (rw (step_steps, one-mul) at (no_size_nearer n step step_number)) (factorial_pos n) (le_trans (factorial_mono n 25 small) largest)
  where
    below : (a c l : ℕ) → distance a l ≤ distance c l → 0 < c → c ≤ l → distance a l < l
    below a c l d p q = omega arith

-- ---- the theorem, for one n

module _ (n : ℕ) (small : n ≤ 25) where
  plus : is_minus (nearest_inverse n) ≡ false
  plus = (inverse_is n).1

  some : 0 < steps binary64 (nearest_inverse n)
  some = first_pos (steps binary64 (nearest_inverse n)) (factorial n) (not_nothing (sized n (nearest_inverse n)) (in_steps 0) (nearer_than_zero n small))
    where
      not_nothing : (a l : ℕ) → distance a l < l → 0 < a
      not_nothing a l h = omega arith

  -- what is minus is farther away than 0
  minus_off : (y : Float) → is_minus y ≡ true → off n (nearest_inverse n) < off n y
  unfolding off
  minus_off y m = rw (plus, m) (lt_of_lt_of_le (nearer_than_zero n small) (le-add_left (in_steps 0) (sized n y)))

  nearest : (y : Float) → Number binary64 y → (s : Bool) → is_minus y ≡ s → off n (nearest_inverse n) ≤ off n y
  unfolding off
  nearest y h true m = le_of_lt (minus_off y m)
  nearest y h false m = rw (plus, m) (no_size_nearer n y h)

  alone : (y : Float) → Number binary64 y → off n y ≤ off n (nearest_inverse n) → (s : Bool) → is_minus y ≡ s → y ≡ nearest_inverse n
  unfolding off
  alone y h l true m = absurd (not-le_of_lt (minus_off y m) l)
  alone y h l false m = same_number binary64 y (nearest_inverse n) h (inverse_number n) (m ∙ sym plus) (as_near n y h (rw (plus, m) at l))

  pub inverse_nearest : IsNearestInverse n (nearest_inverse n)
  inverse_nearest = record {
    number = inverse_number n;
    positive = (positive_is (nearest_inverse n) (inverse_number n)).1 (plus, some);
    nearest = λ y h. nearest y h (is_minus y) refl;
    alone = λ y h l. alone y h l (is_minus y) refl;
  }

-- ---- the tables

by_rule : (size n k : ℕ) → k < size → get_or (inverses_from size n) k nan ≡ nearest_inverse (2 * k + n)
by_rule zero n k l = absurd (not-le_of_lt l zero-le)
by_rule (suc size) n zero l = ap nearest_inverse (sym (zero-add n))
by_rule (suc size) n (suc k) l = by_rule size (n + 2) k (omega arith) ∙ ap nearest_inverse (next k n)
  where
    next : (k n : ℕ) → 2 * k + (n + 2) ≡ 2 * suc k + n
    next k n = omega arith

pub table_entry : (first k : ℕ) → k < 12 → get_or (coefficients first) k nan ≡ nearest_inverse (2 * k + first)
unfolding coefficients
table_entry first k l = by_rule 12 first k l

-- C2 has the first entry 1/2!, and C3 1/3!
pub table_nearest : (first k : ℕ) → first ≤ 3 → k < 12 → IsNearestInverse (2 * k + first) (get_or (coefficients first) k nan)
table_nearest first k f l = rw (table_entry first k l) (inverse_nearest (2 * k + first) (omega arith))
