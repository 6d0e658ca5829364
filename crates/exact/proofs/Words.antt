-- The number that a word below the infinity's stands for, in steps: the digits themselves where the exponent's field is 0, and else the
-- digits with the leading one, moved up by one less than the field.
use mathlib.Core.Path.{◌≡◌, sym, ap, ◌∙◌, subst}
use mathlib.Core.Bool.{Bool, false, not, cond}
use Prim.Native.Nat.{ℕ, suc, ◌+◌, ◌-◌, ◌*◌, ◌/◌, ◌%◌, ◌^◌, ◌≤◌, ◌<◌}
use native.Mathlib.Nat.{one-mul, pow-succ', lt_of_not-le, not-le_of_lt, le-div_iff_mul-le, add-zero, zero-add, mul-one, mul_comm, zero-mul, suc-mul, le_trans, le_of_eq, lt_of_lt_of_le, ne_of_lt, mul-le-mul_right, mul-add-div_right, div-eq_of_lt, mul-add-mod_self_right, mod-eq_of_lt}
use native.Mathlib.Omega.{arith}
use borrow.Author.Tests.{le-ltb, lt-leb, ne_eqb}
use lib.Dec.{T, eqb}
use lib.Pow.{pow_pos, pow_mono}
use lib.Ieee.{Float, inf, nan, Format, prec, emax, low, hid, ones, top, size, odd, of_fields, nan_bits, of_bits, to_bits}
use lib.Ieee.Digits.{size-lt, size-le, size_reaches}
use lib.Ieee.Fits.{two, reach, kept-lt}
use lib.Ieee.Bits.{nan_bits_above}
use lib.Ieee.Exact.{HasValue, odd_sign}
use lib.Ieee.Scale.{overflow}
use Rattle.exact.specs.Numbers.{Number, is_minus, steps}
use Rattle.exact.proofs.Basics.{failed}
use Rattle.exact.proofs.Steps.{word_of, to_bits_steps, steps_lt}

module _ (f : Format) (x t : ℕ) (X : x < ones f) (H : t < hid f) where
  hid_pos : 0 < hid f
  hid_pos = pow_pos (prec f - 1)

  small : x * hid f + t < top f
  small = lt_of_lt_of_le (next (x * hid f) t (hid f) H) (le_trans (le_of_eq (sym (suc-mul x (hid f)))) (le_trans (mul-le-mul_right (hid f) (after X)) (le_of_eq (mul_comm (suc (ones f)) (hid f)))))
    where
      next : (a t h : ℕ) → t < h → a + t < a + h
      next a t h l = omega arith

      after : {a b : ℕ} → a < b → suc a ≤ suc b
      after l = omega arith

  -- the fields of the word are x and t, and its sign is clear
  fields : of_bits f (x * hid f + t) ≡ of_fields f false x t
  unfolding of_bits
  fields =
      ap (λ (s : Bool). of_fields f s ((x * hid f + t) % top f / hid f) ((x * hid f + t) % hid f)) (lt-leb (top f) (x * hid f + t) small)
      ∙ ap (λ (w : ℕ). of_fields f false (w / hid f) ((x * hid f + t) % hid f)) (mod-eq_of_lt small)
      ∙ ap (λ (d : ℕ). of_fields f false d ((x * hid f + t) % hid f)) (mul-add-div_right hid_pos x t ∙ ap (λ (d : ℕ). x + d) (div-eq_of_lt H) ∙ add-zero x)
      ∙ ap (λ (d : ℕ). of_fields f false x d) (mul-add-mod_self_right x (hid f) t ∙ mod-eq_of_lt H)

-- a field of 0
pub subnormal_word : (f : Format) (t : ℕ) → t < hid f → HasValue (of_bits f t) false t (2 ^ low f)
unfolding of_fields
subnormal_word f t H =
    let is : of_bits f t ≡ odd (prec f) false t 0 (low f) = ap (of_bits f) (sym (ap (λ (a : ℕ). a + t) (zero-mul (hid f)) ∙ zero-add t)) ∙ fields f 0 t (ones_pos (emax f)) H in
    subst (λ (v : Float). HasValue v false t (2 ^ low f)) (sym is) (subst (λ (a : ℕ). HasValue (odd (prec f) false t 0 (low f)) false a (2 ^ low f)) (mul-one t) (odd_sign (prec f) false t 0 (low f)))
  where
    ones_pos : (e : ℕ) → 0 < 2 * e + 1
    ones_pos e = omega arith

-- a field above 0, and below the infinity's
pub normal_word : (f : Format) (x t : ℕ) → suc x < ones f → t < hid f → HasValue (of_bits f (suc x * hid f + t)) false ((hid f + t) * 2 ^ x) (2 ^ low f)
unfolding of_fields
normal_word f x t X H =
    let is : of_bits f (suc x * hid f + t) ≡ odd (prec f) false (hid f + t) x (low f) =
    fields f (suc x) t X H ∙ ap (λ (b : Bool). cond b (cond (eqb t 0) (inf false) nan) (odd (prec f) false (hid f + t) x (low f))) (ne_eqb (suc x) (ones f) (ne_of_lt X)) in
    subst (λ (v : Float). HasValue v false ((hid f + t) * 2 ^ x) (2 ^ low f)) (sym is) (odd_sign (prec f) false (hid f + t) x (low f))

-- ---- a word that is, without its sign, not above the infinity's is no NaN's

pub no_nan_word : (f : Format) (w : ℕ) → w % top f ≤ ones f * hid f → T (not (nan_bits f w))
no_nan_word f w h = failed (nan_bits_above f w ∙ le-ltb (ones f * hid f) (w % top f) h)

-- ---- the word of a number above zero lies strictly between those of 0 and of the infinity

module _ (f : Format) (n : ℕ) (N : 0 < n) (O : n < overflow f) where
  -- the digits beyond the format's are fewer than all, so that something is kept
  something : 0 < n / 2 ^ (size n - prec f)
  something = (le-div_iff_mul-le (pow_pos (size n - prec f))).1 (le_trans (le_of_eq (one-mul (2 ^ (size n - prec f)))) (size_reaches n (size n - prec f) (fewer (size n) (prec f) some (two f))))
    where
      some : 0 < size n
      some = lt_of_not-le (λ (z : size n ≤ 0). not-le_of_lt (lt_of_lt_of_le (size-lt n) (pow_mono z)) N)

      fewer : (z p : ℕ) → 0 < z → 2 ≤ p → z - p < z
      fewer z p Z P = omega arith

  -- and few enough that the field stays below the infinity's
  field : suc (suc (size n - prec f)) ≤ ones f
  field = bound (size n) (prec f) (emax f) (two f) (reach f) (size-le n (low f + suc (emax f)) O)
    where
      bound : (z p e : ℕ) → 2 ≤ p → p ≤ suc e → z ≤ e + p - 2 + suc e → suc (suc (z - p)) ≤ 2 * e + 1
      bound z p e P r l = omega arith

  twice : 2 ^ prec f ≡ 2 * hid f
  twice = ap (λ (p : ℕ). 2 ^ p) (one_more (prec f) (two f)) ∙ pow-succ' 2 (prec f - 1)
    where
      one_more : (p : ℕ) → 2 ≤ p → p ≡ suc (p - 1)
      one_more p P = omega arith

  between : (0 < word_of f false n) × (word_of f false n < ones f * hid f)
  unfolding word_of
  between =
      let k = size n - prec f in
      let l : n / 2 ^ k < 2 * hid f = lt_of_lt_of_le (kept-lt (prec f) n) (le_of_eq twice) in
      let m : suc (suc k) * hid f ≤ ones f * hid f = mul-le-mul_right (hid f) field in
      (sum_pos (k * hid f) (n / 2 ^ k) something, under k (hid f) (n / 2 ^ k) (ones f * hid f) l m)
    where
      sum_pos : (a b : ℕ) → 0 < b → 0 < 0 + a + b
      sum_pos a b h = omega arith

      under : (k h q o : ℕ) → q < 2 * h → suc (suc k) * h ≤ o → 0 + k * h + q < o
      under k h q o a b = omega arith

pub positive_word : (f : Format) (x : Float) → Number f x → is_minus x ≡ false → 0 < steps f x → (0 < to_bits f x) × (to_bits f x < ones f * hid f)
positive_word f x h plus p =
    rw (to_bits_steps f x h.1, plus) (between f (steps f x) p (steps_lt f x h.0))
