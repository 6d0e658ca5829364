-- The signs of sums, products and quotients, NaN and infinities included: `is_minus` is false of a NaN, so "not minus" is "NaN, or the sign
-- bit clear", which sums, products and quotients keep. What is not minus is never below zero, so a sum of squares never is,
-- and what is above zero is not minus.
use mathlib.Core.Path.{◌≡◌, refl, sym, ◌∙◌}
use mathlib.Core.Bool.{Bool, true, false, cond, true≢false}
use Prim.Native.Nat.{ℕ, zero, suc, ◌+◌, ◌*◌, zero-le}
use native.Mathlib.Nat.{le_trans, le_of_eq, zero-mul}
use borrow.Author.Tests.{le-ltb}
use lib.Dec.{T, eqb}
use lib.Ieee.{Float, nan, inf, fin, Format, binary64, up, down, fits, unlike, round, sum, add, mul, div, lt, of_bits}
use Rattle.exact.specs.Numbers.{nought, Number, magnitude, is_minus, ◌⊕◌, ◌⊗◌}
use Rattle.exact.proofs.Rounding.{round_minus}

-- ---- a sum of two that are not minus

sum_plus : (f : Format) (a b c : ℕ) → is_minus (sum f false a false b c) ≡ false
unfolding sum
sum_plus f a b c = round_minus f false (a + b) c

pub add_plus : (f : Format) (x y : Float) → is_minus x ≡ false → is_minus y ≡ false → is_minus (add f x y) ≡ false
unfolding add
add_plus f nan y h k = refl
add_plus f (inf true) y h k = absurd (true≢false h)
add_plus f (inf false) nan h k = refl
add_plus f (inf false) (inf true) h k = refl
add_plus f (inf false) (inf false) h k = refl
add_plus f (inf false) (fin t n d) h k = refl
add_plus f (fin true m e) y h k = absurd (true≢false h)
add_plus f (fin false m e) nan h k = refl
add_plus f (fin false m e) (inf t) h k = k
add_plus f (fin false m e) (fin true n d) h k = absurd (true≢false k)
add_plus f (fin false m e) (fin false n d) h k = sum_plus f (m * up e * down d) (n * up d * down e) (down e * down d)

-- ---- a product and a quotient of two of one sign

alike : (s t : Bool) → s ≡ t → unlike s t ≡ false
alike true true e = refl
alike true false e = absurd (true≢false e)
alike false true e = absurd (true≢false (sym e))
alike false false e = refl

either : (b : Bool) (x y : Float) → is_minus x ≡ false → is_minus y ≡ false → is_minus (cond b x y) ≡ false
either true x y h k = h
either false x y h k = k

pub mul_plus : (f : Format) (x y : Float) → is_minus x ≡ is_minus y → is_minus (mul f x y) ≡ false
unfolding mul
mul_plus f nan y e = refl
mul_plus f (inf s) nan e = refl
mul_plus f (inf s) (inf t) e = alike s t e
mul_plus f (inf s) (fin t n d) e = either (eqb n 0) nan (inf (unlike s t)) refl (alike s t e)
mul_plus f (fin s m a) nan e = refl
mul_plus f (fin s m a) (inf t) e = either (eqb m 0) nan (inf (unlike s t)) refl (alike s t e)
mul_plus f (fin s m a) (fin t n d) e = round_minus f (unlike s t) (m * up a * (n * up d)) (down a * down d) ∙ alike s t e

pub div_plus : (f : Format) (x y : Float) → is_minus x ≡ is_minus y → is_minus (div f x y) ≡ false
unfolding div
div_plus f nan y e = refl
div_plus f (inf s) nan e = refl
div_plus f (inf s) (inf t) e = refl
div_plus f (inf s) (fin t n d) e = alike s t e
div_plus f (fin s m a) nan e = refl
div_plus f (fin s m a) (inf t) e = alike s t e
div_plus f (fin s m a) (fin t n d) e =
    either (eqb n 0) (cond (eqb m 0) nan (inf (unlike s t))) (round f (unlike s t) (m * up a * down d) (n * up d * down a))
    (either (eqb m 0) nan (inf (unlike s t)) refl (alike s t e))
    (round_minus f (unlike s t) (m * up a * down d) (n * up d * down a) ∙ alike s t e)

-- ---- what is not minus is not below zero, and what is above zero is not minus

pub not_below_zero : (x : Float) → is_minus x ≡ false → lt x nought ≡ false
unfolding lt of_bits
not_below_zero nan h = refl
not_below_zero (inf s) h = h
not_below_zero (fin true m e) h = absurd (true≢false h)
not_below_zero (fin false m e) h = le-ltb (m * up e * 1) (0 * down e) (le_trans (le_of_eq (zero-mul (down e))) zero-le)

pub above_zero_plus : (x : Float) → T (lt nought x) → is_minus x ≡ false
unfolding lt of_bits
above_zero_plus nan h = refl
above_zero_plus (inf true) h = absurd h
above_zero_plus (inf false) h = refl
above_zero_plus (fin true m e) h = absurd h
above_zero_plus (fin false m e) h = refl

pub three_squares : (a b c : Float) → is_minus (a ⊗ a ⊕ b ⊗ b ⊕ c ⊗ c) ≡ false
three_squares a b c = add_plus binary64 (a ⊗ a ⊕ b ⊗ b) (c ⊗ c) (add_plus binary64 (a ⊗ a) (b ⊗ b) (mul_plus binary64 a a refl) (mul_plus binary64 b b refl)) (mul_plus binary64 c c refl)

-- ---- a finite number that is not minus

abbrev pub Plus : Float → Type 0
Plus x = Number binary64 x × (is_minus x ≡ false)

pub magnitude_plus : (x : Float) → Number binary64 x → Plus (magnitude x)
unfolding magnitude fits
magnitude_plus nan h = absurd h.1
magnitude_plus (inf s) h = absurd h.1
magnitude_plus (fin s zero e) h = (h, refl)
magnitude_plus (fin s (suc m) e) h = (h, refl)
