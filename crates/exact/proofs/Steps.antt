-- A finite number as a whole number of steps of its format's smallest value: exactly that many, fewer than overflow, and a significand of
-- the format's digits moved up. Two numbers with the same sign and the same steps are the same number.
use mathlib.Core.Path.{◌≡◌, refl, sym, ap, ◌∙◌, subst}
use mathlib.Core.Bool.{Bool, cond, ◌&&◌}
use Prim.Native.Nat.{ℕ, zero, suc, ◌+◌, ◌-◌, ◌*◌, ◌/◌, ◌%◌, ◌^◌, ◌≤◌, ◌<◌}
use native.Mathlib.Nat.{sub-add_cancel, le_trans, le_of_eq, lt_of_lt_of_le, not-le_of_lt, mul-one, zero-mul, mul_assoc, mul_comm, mul_right_comm, mul-pos, mul-lt-mul_of_pos_right, lt_of_mul-lt-mul_right, mul-div_cancel, le-mul_of_pos_right}
use lib.IntN.{ℤ, pos, negsuc}
use lib.Dec.{T, leb, ltb, eqb, leb→le, ltb→lt, eqb→eq}
use lib.Pow.{pow-add, pow_pos, pow-lt}
use lib.Ieee.{Float, nan, inf, fin, Format, prec, emax, low, up, down, hid, top, size, fits, of_bits, to_bits}
use lib.Ieee.Fits.{and_l, and_r, up_pos, down_pos}
use lib.Ieee.Bits.{of_bits-to_bits}
use lib.Ieee.Exact.{HasValue}
use lib.Ieee.Scale.{overflow}
use Rattle.exact.specs.Numbers.{is_finite, Number, is_minus, steps}
use Rattle.exact.proofs.Basics.{not_below}

-- ---- what it takes to fit, as facts

-- the significand, the lowest exponent, the largest value
abbrev Facts : Format → ℕ → ℤ → Type 0
Facts f m e = (m < 2 ^ prec f) × (down e ≤ 2 ^ low f) × (m * up e < 2 ^ suc (emax f) * down e)

factor_of_one : (a b : ℕ) → a * b ≡ 1 → 0 < a → b ≤ 1
factor_of_one a b h p = le_trans (le-mul_of_pos_right b p) (le_of_eq (mul_comm b a ∙ h))

facts : (f : Format) (s : Bool) (m : ℕ) (e : ℤ) → T (fits f (fin s m e)) → Facts f m e
unfolding fits
facts f s zero e h = (
  pow_pos (prec f),
  le_trans (factor_of_one (up e) (down e) (eqb→eq (up e * down e) 1 h) (up_pos e)) (pow_pos (low f)),
  subst (λ (n : ℕ). n < 2 ^ suc (emax f) * down e) (sym (zero-mul (up e))) (mul-pos (pow_pos (suc (emax f))) (down_pos e)),
)
facts f s (suc m) e h =
    let A = eqb (suc m % 2) 1 in
    let B = ltb (suc m) (2 ^ prec f) in
    let C = leb (down e) (2 ^ low f) in
    let D = ltb (suc m * up e) (2 ^ suc (emax f) * down e) in (
      ltb→lt (suc m) (2 ^ prec f) (and_r A B (and_l (A && B) C (and_l (A && B && C) D h))),
      leb→le (down e) (2 ^ low f) (and_r (A && B) C (and_l (A && B && C) D h)),
      ltb→lt (suc m * up e) (2 ^ suc (emax f) * down e) (and_r (A && B && C) D h),
    )

-- ---- a power of two that is at most another divides it

exponent_le : (i j : ℕ) → 2 ^ i ≤ 2 ^ j → i ≤ j
exponent_le i j h = not_below (λ l. not-le_of_lt (pow-lt l) h)

-- 2 ^ e is 2 ^ shift steps
abbrev shift : Format → ℤ → ℕ
shift f (pos k) = k + low f
shift f (negsuc k) = low f - suc k

up_shift : (f : Format) (e : ℤ) → down e ≤ 2 ^ low f → up e * 2 ^ low f ≡ 2 ^ shift f e * down e
up_shift f (pos k) h = sym (pow-add 2 k (low f)) ∙ sym (mul-one (2 ^ (k + low f)))
up_shift f (negsuc k) h =
    mul_comm 1 (2 ^ low f) ∙ mul-one (2 ^ low f)
    ∙ ap (λ (n : ℕ). 2 ^ n) (sym (sub-add_cancel (exponent_le (suc k) (low f) h)))
    ∙ pow-add 2 (low f - suc k) (suc k)

steps_shift : (f : Format) (s : Bool) (m : ℕ) (e : ℤ) → T (fits f (fin s m e)) → steps f (fin s m e) ≡ m * 2 ^ shift f e
unfolding steps
steps_shift f s m e h =
    ap (λ (n : ℕ). n / down e) (mul_assoc m (up e) (2 ^ low f) ∙ ap (λ (n : ℕ). m * n) (up_shift f e (facts f s m e h).1) ∙ sym (mul_assoc m (2 ^ shift f e) (down e)))
    ∙ mul-div_cancel (m * 2 ^ shift f e) (down_pos e)

-- ---- the laws

-- the steps are a significand of the format's digits, moved up
pub record Moved (f : Format) (n : ℕ) : Type 0 where
  pub significand : ℕ
  pub places : ℕ
  pub few : significand < 2 ^ prec f
  pub is : n ≡ significand * 2 ^ places

pub moved : (f : Format) (x : Float) → T (fits f x) → Moved f (steps f x)
unfolding steps
moved f nan h = record { significand = 0; places = 0; few = pow_pos (prec f); is = refl }
moved f (inf s) h = record { significand = 0; places = 0; few = pow_pos (prec f); is = refl }
moved f (fin s m e) h = record { significand = m; places = shift f e; few = (facts f s m e h).0; is = steps_shift f s m e h }

-- a finite number is as many steps as `steps` says
pub in_steps_lem : (f : Format) (x : Float) → Number f x → HasValue x (is_minus x) (steps f x) (2 ^ low f)
in_steps_lem f nan h = absurd h.1
in_steps_lem f (inf s) h = absurd h.1
in_steps_lem f (fin s m e) h = (
  refl,
  mul_assoc m (up e) (2 ^ low f)
      ∙ ap (λ (n : ℕ). m * n) (up_shift f e (facts f s m e h.0).1)
      ∙ sym (mul_assoc m (2 ^ shift f e) (down e))
      ∙ ap (λ (n : ℕ). n * down e) (sym (steps_shift f s m e h.0)),
)

-- and no number of steps but that is its value
pub steps_of_value : (f : Format) (x : Float) (s : Bool) (a : ℕ) → HasValue x s a (2 ^ low f) → (steps f x ≡ a) × (is_minus x ≡ s) × T (is_finite x)
unfolding steps
steps_of_value f nan s a h = absurd h
steps_of_value f (inf t) s a h = absurd h
steps_of_value f (fin t m e) s a h = (ap (λ (n : ℕ). n / down e) h.1 ∙ mul-div_cancel a (down_pos e), h.0, tt)

-- fewer than overflow
pub steps_lt : (f : Format) (x : Float) → T (fits f x) → steps f x < overflow f
unfolding steps
steps_lt f nan h = pow_pos (low f + suc (emax f))
steps_lt f (inf s) h = pow_pos (low f + suc (emax f))
steps_lt f (fin s m e) h =
    let v = (in_steps_lem f (fin s m e) (h, tt)).1 in
    let l : m * up e * 2 ^ low f < 2 ^ suc (emax f) * down e * 2 ^ low f = mul-lt-mul_of_pos_right (facts f s m e h).2 (pow_pos (low f)) in
    lt_of_mul-lt-mul_right (down e)
    (subst (λ (n : ℕ). n < overflow f * down e) v
    (lt_of_lt_of_le l (le_of_eq (mul_right_comm (2 ^ suc (emax f)) (down e) (2 ^ low f) ∙ ap (λ (n : ℕ). n * down e) (mul_comm (2 ^ suc (emax f)) (2 ^ low f) ∙ sym (pow-add 2 (low f) (suc (emax f))))))))

-- the word is made of the sign and the steps alone
unfoldable pub word_of : Format → Bool → ℕ → ℕ
word_of f s n = cond s (top f) 0 + (size n - prec f) * hid f + n / 2 ^ (size n - prec f)

pub to_bits_steps : (f : Format) (x : Float) → T (is_finite x) → to_bits f x ≡ word_of f (is_minus x) (steps f x)
unfolding to_bits steps word_of
to_bits_steps f nan k = absurd k
to_bits_steps f (inf s) k = absurd k
to_bits_steps f (fin s m e) k = refl

-- equal sign and size mean equal numbers
pub same_number : (f : Format) (x y : Float) → Number f x → Number f y → is_minus x ≡ is_minus y → steps f x ≡ steps f y → x ≡ y
same_number f x y h k s e =
    sym (of_bits-to_bits f x h.0)
    ∙ ap (of_bits f) (to_bits_steps f x h.1 ∙ ap (λ (t : Bool). word_of f t (steps f x)) s ∙ ap (word_of f (is_minus y)) e ∙ sym (to_bits_steps f y k.1))
    ∙ of_bits-to_bits f y k.0
