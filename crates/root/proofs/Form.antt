-- How a number of m * 2^c steps comes to the form that its root is taken from: m is moved up by its leading zeros to 53 digits, and what
-- is left of the exponent is halved; where it is odd, one more digit is moved into v.
use mathlib.Core.Path.{◌≡◌, sym, ap, ◌∙◌, subst}
use mathlib.Core.Logic.{inl, inr}
use Prim.Native.Nat.{ℕ, suc, ◌+◌, ◌-◌, ◌*◌, ◌/◌, ◌%◌, ◌^◌, ◌≤◌, ◌<◌}
use native.Mathlib.Nat.{eq-zero-or-pos, ne_of_gt, add_comm, mul-one, mod-lt, div-add-mod', le_trans, le_of_eq, lt_of_lt_of_le, lt_of_le_of_lt, lt_of_not-le, not-le_of_lt, le_antisymm, le_of_mul-le-mul_right, mul-div_cancel, mul-pos, zero-mul, mul_comm, mul_assoc, mul-le-mul_right, mul-lt-mul_of_pos_right, le-mul_of_pos_right, mul-le-mul_left, suc-add}
use native.Mathlib.Omega.{arith}
use lib.Dec.{lit≤}
use lib.Ieee.{binary64, of_bits, size}
use lib.Ieee.Digits.{size-lt, size_reaches}
use Rattle.exact.specs.Numbers.{steps}
use Rattle.exact.proofs.Steps.{steps_of_value}
use Rattle.exact.proofs.Words.{subnormal_word, normal_word}
use lib.Count.{count_leading_zeros, leading_top}
use lib.Pow.{pow-add, pow_pos, pow_mono, shl_lt}
use Rattle.root.specs.Form.{InForm}
use Rattle.root.specs.Paper.{half_of, whole_of}

-- m moved up by `up` has 53 digits, and `up` is 11 less than m's leading zeros in a word
pub record MovedUp (m up : ℕ) : Type 0 where
  pub zeros : count_leading_zeros 64 m ≡ up + 11
  pub within : up ≤ 52
  pub least : 2 ^ 52 ≤ m * 2 ^ up
  pub most : m * 2 ^ up < 2 ^ 53

pub moved_up : (m : ℕ) → 0 < m → m < 2 ^ 53 → MovedUp m (count_leading_zeros 64 m - 11)
moved_up m p l =
    let t = leading_top 64 m p (lt_of_lt_of_le l (lit≤ tt)) in
    from t.0 t.1 t.2 t.3 (below t.0 t.2)
  where
    below : (j : ℕ) → 2 ^ j ≤ m → j < 53
    below j h = lt_of_not-le (λ (g : 53 ≤ j). not-le_of_lt (lt_of_le_of_lt h l) (pow_mono g))

    from : (j : ℕ) → count_leading_zeros 64 m + suc j ≡ 64 → 2 ^ j ≤ m → m < 2 ^ suc j → j < 53 → MovedUp m (count_leading_zeros 64 m - 11)
    from j e a b h =
        let up = count_leading_zeros 64 m - 11 in
        let reach : j + up ≡ 52 = omega arith in
        record {
          zeros = omega arith;
          within = omega arith;
          least = subst (λ (k : ℕ). 2 ^ k ≤ m * 2 ^ up) reach (le_trans (le_of_eq (pow-add 2 j up)) (mul-le-mul_right (2 ^ up) a));
          most = subst (λ (k : ℕ). m * 2 ^ up < 2 ^ suc k) reach (lt_of_lt_of_le (mul-lt-mul_of_pos_right b (pow_pos up)) (le_of_eq (sym (pow-add 2 (suc j) up) ∙ ap (λ (k : ℕ). 2 ^ k) (suc-add j up))));
        }

-- the exponents add up, whatever the numbers 1074 and 54 are
exponents : (m c up d h k e : ℕ) → c + k ≡ up + d + e + 2 * h → m * 2 ^ c * 2 ^ k ≡ m * 2 ^ up * 2 ^ d * 2 ^ e * 2 ^ (2 * h)
exponents m c up d h k e s =
    mul_assoc m (2 ^ c) (2 ^ k)
    ∙ ap (λ (n : ℕ). m * n) (sym (pow-add 2 c k) ∙ ap (λ (n : ℕ). 2 ^ n) s)
    ∙ simp (pow-add, mul_assoc)

-- g is how many digits m * 2 ^ c has; v is the significand with d digits more, where d makes g + d odd
pub in_form : (m c up d : ℕ) → MovedUp m up → c ≤ 2045 → d ≤ 1 → (c + 53 - up + d) % 2 ≡ 1 → InForm (m * 2 ^ c) (m * 2 ^ up * 2 ^ d) ((c + 53 - up + 967) / 2)
in_form m c up d a b D o = record {
  same = exponents m c up d ((c + 53 - up + 967) / 2) 1074 54 (omega arith);
  least = le_trans a.least (le-mul_of_pos_right (m * 2 ^ up) (pow_pos d));
  most = omega (arith, mul-le-mul_left (m * 2 ^ up) (pow_mono D));
  within = omega arith;
}

-- ---- the steps of a word

-- without a leading digit the word is the steps
pub low_steps : (w : ℕ) → w / 2 ^ 52 ≡ 0 → steps binary64 (of_bits binary64 w) ≡ w * 2 ^ 0
low_steps w z = (steps_of_value binary64 (of_bits binary64 w) _ w (subnormal_word binary64 w (omega arith))).0 ∙ sym (mul-one w)

-- with one it is the field above it that moves them up
pub high_steps : (w : ℕ) → w < 0x7ff0_0000_0000_0000 → (w / 2 ^ 52 ≡ 0 → ⊥) → steps binary64 (of_bits binary64 w) ≡ (w % 2 ^ 52 + 2 ^ 52) * 2 ^ (w / 2 ^ 52 - 1)
high_steps w l z =
    let x = w / 2 ^ 52 - 1 in
    let field : suc x ≡ w / 2 ^ 52 = omega arith in
    let word : suc x * 2 ^ 52 + w % 2 ^ 52 ≡ w = ap (λ (n : ℕ). n * 2 ^ 52 + w % 2 ^ 52) field ∙ div-add-mod' w (2 ^ 52) in
    let value = (steps_of_value binary64 (of_bits binary64 (suc x * 2 ^ 52 + w % 2 ^ 52)) _ ((2 ^ 52 + w % 2 ^ 52) * 2 ^ x) (normal_word binary64 x (w % 2 ^ 52) (omega arith) (mod-lt w (pow_pos 52)))).0 in
    ap (λ (n : ℕ). steps binary64 (of_bits binary64 n)) (sym word) ∙ value ∙ ap (λ (n : ℕ). n * 2 ^ x) (add_comm (2 ^ 52) (w % 2 ^ 52))

-- ---- so every number above zero has a form

some_form : (m c : ℕ) → 0 < m → m < 2 ^ 53 → c ≤ 2045 → (v : ℕ) × (h : ℕ) × InForm (m * 2 ^ c) v h
some_form m c p l b =
    let up = count_leading_zeros 64 m - 11 in
    let d = 1 - (c + 53 - up) % 2 in
    (m * 2 ^ up * 2 ^ d, (c + 53 - up + 967) / 2, in_form m c up d (moved_up m p l) b (omega arith) (omega arith))

pub has_form : (w : ℕ) → 0 < w → w < 0x7ff0_0000_0000_0000 → (v : ℕ) × (h : ℕ) × InForm (steps binary64 (of_bits binary64 w)) v h
has_form w p l =
    elim (eq-zero-or-pos (w / 2 ^ 52)) [
      | inl z ↦ rw (low_steps w z) (some_form w 0 p (omega arith) (omega arith))
      | inr q ↦ rw (high_steps w l (ne_of_gt q)) (some_form (w % 2 ^ 52 + 2 ^ 52) (w / 2 ^ 52 - 1) (omega arith) (omega arith) (omega arith))
    ]

-- ---- and one alone: h and v are those of the rules

-- powers of two are ordered as their exponents
below_power : (i j : ℕ) → 2 ^ i < 2 ^ j → i < j
below_power i j h = lt_of_not-le (λ (k : j ≤ i). not-le_of_lt h (pow_mono k))

-- without the 54 digits that both sides have
without_zeros : (u v h a b : ℕ) → u * 2 ^ (a + b) ≡ v * 2 ^ b * 2 ^ (2 * h) → u * 2 ^ a ≡ v * 2 ^ (2 * h)
without_zeros u v h a b e =
    let left : u * 2 ^ a * 2 ^ b ≡ u * 2 ^ (a + b) = mul_assoc u (2 ^ a) (2 ^ b) ∙ ap (λ (n : ℕ). u * n) (sym (pow-add 2 a b)) in
    let right : v * 2 ^ b * 2 ^ (2 * h) ≡ v * 2 ^ (2 * h) * 2 ^ b = simp (mul_assoc, mul_comm) in
    le_antisymm (le_of_mul-le-mul_right (le_of_eq (left ∙ e ∙ right)) (pow_pos b)) (le_of_mul-le-mul_right (le_of_eq (sym (left ∙ e ∙ right))) (pow_pos b))

-- where v has 53 or 54 digits, the exponents are as far apart as the digits
halved : (u v h a : ℕ) → 2 ^ 52 ≤ v → v < 2 ^ 54 → u * 2 ^ a ≡ v * 2 ^ (2 * h) → (2 * h + 52 < size u + a) × (size u + a ≤ 2 * h + 54)
halved u v h a lo hi e =
    let low : 2 ^ (52 + 2 * h) < 2 ^ (size u + a) = lt_of_le_of_lt (le_trans (le_of_eq (pow-add 2 52 (2 * h))) (le_trans (mul-le-mul_right (2 ^ (2 * h)) lo) (le_of_eq (sym e)))) (shl_lt (size u) a (size-lt u)) in
    let some : 0 < size u = lt_of_not-le (λ (z : size u ≤ 0). not-le_of_lt (mul-pos (lt_of_lt_of_le (pow_pos 52) lo) (pow_pos (2 * h))) (le_trans (le_of_eq (sym e)) (none (size u) z (size-lt u)))) in
    let reach : 2 ^ (size u - 1) ≤ u = size_reaches u (size u - 1) (omega (arith, some)) in
    let high : 2 ^ (size u - 1 + a) < 2 ^ (54 + 2 * h) =
    lt_of_le_of_lt (le_trans (le_of_eq (pow-add 2 (size u - 1) a)) (le_trans (mul-le-mul_right (2 ^ a) reach) (le_of_eq e))) (shl_lt 54 (2 * h) hi) in
    (omega (arith, below_power (52 + 2 * h) (size u + a) low), omega (arith, some, below_power (size u - 1 + a) (54 + 2 * h) high))
  where
    -- without a digit u is 0
    none : (k : ℕ) → k ≤ 0 → u < 2 ^ k → u * 2 ^ a ≤ 0
    none k z l =
        let e : k ≡ 0 = omega arith in
        let f : u ≡ 0 = omega (arith, rw e at l) in
        le_of_eq (ap (λ (n : ℕ). n * 2 ^ a) f ∙ zero-mul (2 ^ a))

pub half_is : (u v h : ℕ) → InForm u v h → h ≡ half_of u
unfolding half_of
half_is u v h f =
    let b = halved u v h 1020 f.least (omega (arith, f.most)) (without_zeros u v h 1020 54 f.same) in
    omega (arith, b.0, b.1)

pub whole_is : (u v h : ℕ) → InForm u v h → v ≡ whole_of u
unfolding whole_of
whole_is u v h f =
    sym (ap (λ (n : ℕ). n / 2 ^ (2 * half_of u)) (without_zeros u v h 1020 54 f.same ∙ ap (λ (n : ℕ). v * 2 ^ (2 * n)) (half_is u v h f)) ∙ mul-div_cancel v (pow_pos (2 * half_of u)))
