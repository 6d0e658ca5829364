-- What the root of a number above zero looks like: with s the 54 digits of the whole root, (s + 1) / 2 of them moved up by h + 1. The word
-- that the code writes has that shape (`written`), and so has the definition's root, since half a step more than the whole root rounds to
-- it (`rounds_to`): the two are one number (`is_nearest_root`).
use mathlib.Core.Path.{◌≡◌, sym, ap, ap₂, ◌∙◌, subst}
use mathlib.Core.Bool.{false}
use Prim.Native.Nat.{ℕ, suc, ◌+◌, ◌-◌, ◌*◌, ◌/◌, ◌%◌, ◌^◌, ◌≤◌, ◌<◌}
use native.Mathlib.Nat.{mul_left_comm, mul-pos, mul-le-mul_right, le_of_mul-le-mul_right, lt_of_mul-lt-mul_right, mul-div-mul_right, div-add-mod', mod-lt}
use native.Mathlib.Omega.{arith}
use lib.Dec.{T}
use lib.Pow.{pow-add, pow_pos, shl_lt}
use lib.Ieee.{Float, Format, binary64, prec, low, fits, round, of_bits}
use lib.Ieee.Fits.{round-fits}
use lib.Ieee.Bits.{of_bits-fits}
use lib.Ieee.Scale.{overflow}
use Rattle.exact.specs.Numbers.{Number, is_minus, steps, distance}
use Rattle.exact.proofs.Steps.{steps_of_value, steps_lt, same_number}
use Rattle.exact.proofs.Rounding.{rounded, unit, half_unit, in_units, unit_is, round_steps}
use Rattle.exact.proofs.Words.{normal_word}
use Rattle.root.specs.Form.{InForm}
use Rattle.root.specs.Whole.{IsWholeRoot, whole_root}
use Rattle.root.specs.Root.{radicand, nearest_root}
use Rattle.root.proofs.Whole.{whole_root_is, scaled, never_all_ones, leading, pow_next}

pub record Shape (x r : Float) : Type 0 where
  pub v : ℕ
  pub h : ℕ
  pub s : ℕ
  pub form : InForm (steps binary64 x) v h
  pub whole : IsWholeRoot (v * 2 ^ 54) s
  pub number : Number binary64 r
  pub plus : is_minus r ≡ false
  pub is : steps binary64 r ≡ (s + 1) / 2 * 2 ^ (h + 1)

-- ---- the word that the code writes

pub written : (x : Float) (v h s : ℕ) → InForm (steps binary64 x) v h → IsWholeRoot (v * 2 ^ 54) s → Shape x (of_bits binary64 ((h + 1) * 2 ^ 52 + (s + 1) / 2))
written x v h s f w =
    let lo = leading v s f.least w in
    let hi = never_all_ones v s f.most w in
    let t = (s + 1) / 2 - 2 ^ 52 in
    let word : suc (h + 1) * 2 ^ 52 + t ≡ (h + 1) * 2 ^ 52 + (s + 1) / 2 = omega arith in
    let digits : 2 ^ 52 + t ≡ (s + 1) / 2 = omega arith in
    let value = steps_of_value binary64 (of_bits binary64 (suc (h + 1) * 2 ^ 52 + t)) _ ((2 ^ 52 + t) * 2 ^ (h + 1)) (normal_word binary64 (h + 1) t (omega (arith, f.within)) (omega arith)) in
    rw (← word) (record {
      v = v;
      h = h;
      s = s;
      form = f;
      whole = w;
      number = (of_bits-fits binary64 (suc (h + 1) * 2 ^ 52 + t), value.2);
      plus = value.1;
      is = value.0 ∙ ap (λ (n : ℕ). n * 2 ^ (h + 1)) digits;
    })

-- ---- half a step more than the whole root S, rounded to units of 2 * B steps, where S / B has 54 digits

-- within half a unit lies only the one whole number of units
halfway : (S B L k : ℕ) → 0 < B → 0 < L → 2 * distance (k * (2 * B) * (2 * L)) ((2 * S + 1) * L) ≤ 2 * B * (2 * L) → k ≡ (S / B + 1) / 2
halfway S B L k b l d =
    let above : 4 * (k * B) ≤ 2 * S + 1 + 2 * B = le_of_mul-le-mul_right {k = L} (omega arith) l in
    let below : 2 * S + 1 ≤ 4 * (k * B) + 2 * B = le_of_mul-le-mul_right {k = L} (omega arith) l in
    let split : S / B * B + S % B ≡ S = div-add-mod' S B in
    let small : S % B < B = mod-lt S b in
    let most : 2 * k < S / B + 2 = lt_of_mul-lt-mul_right B (omega arith) in
    let least : S / B < 2 * k + 1 = lt_of_mul-lt-mul_right B (omega arith) in
    omega arith

-- over any format, s having one digit more than it keeps
module _ (f : Format) (S h s : ℕ) (e : S / 2 ^ h ≡ s) (lo : 2 ^ prec f ≤ s) (hi : s < 2 * 2 ^ prec f) where
  whole_part : (2 * S + 1) * 2 ^ low f / (2 * 2 ^ low f) ≡ S
  whole_part = mul-div-mul_right (2 * S + 1) 2 (pow_pos (low f)) ∙ cut S
    where
      cut : (S : ℕ) → (2 * S + 1) / 2 ≡ S
      cut S = omega arith

  unit_of_lem : unit f (2 * S + 1) (2 * 2 ^ low f) ≡ 2 ^ (h + 1)
  unit_of_lem =
      let top : 2 ^ (prec f + (h + 1)) ≡ 2 * (2 ^ prec f * 2 ^ h) = pow-add 2 (prec f) (h + 1) ∙ ap (λ (n : ℕ). 2 ^ prec f * n) (pow_next h) ∙ mul_left_comm (2 ^ prec f) 2 (2 ^ h) in
      let split : s * 2 ^ h + S % 2 ^ h ≡ S = ap (λ (n : ℕ). n * 2 ^ h + S % 2 ^ h) (sym e) ∙ div-add-mod' S (2 ^ h) in
      let small : S % 2 ^ h < 2 ^ h = mod-lt S (pow_pos h) in
      let least : 2 ^ prec f * 2 ^ h ≤ s * 2 ^ h = mul-le-mul_right (2 ^ h) lo in
      let most : suc s * 2 ^ h ≤ 2 * 2 ^ prec f * 2 ^ h = mul-le-mul_right (2 ^ h) hi in
      unit_is f (2 * S + 1) (2 * 2 ^ low f) (h + 1) (rw (whole_part, top) (omega arith)) (rw (whole_part, top) (omega arith))

  rounds_to : rounded f (2 * S + 1) (2 * 2 ^ low f) ≡ (s + 1) / 2 * 2 ^ (h + 1)
  rounds_to =
      let u = in_units f (2 * S + 1) (2 * 2 ^ low f) in
      let is : rounded f (2 * S + 1) (2 * 2 ^ low f) ≡ u.0 * (2 * 2 ^ h) = u.1 ∙ ap (λ (n : ℕ). u.0 * n) (unit_of_lem ∙ pow_next h) in
      let d : 2 * distance (u.0 * (2 * 2 ^ h) * (2 * 2 ^ low f)) ((2 * S + 1) * 2 ^ low f) ≤ 2 * 2 ^ h * (2 * 2 ^ low f) = rw (is, unit_of_lem, pow_next h) at (half_unit f (2 * S + 1) (2 * 2 ^ low f) (mul-pos (pow_pos 1) (pow_pos (low f)))) in
      is ∙ ap₂ (λ (a b : ℕ). a * b) (halfway S (2 ^ h) (2 ^ low f) u.0 (pow_pos h) (pow_pos (low f)) d ∙ ap (λ (n : ℕ). (n + 1) / 2) e) (sym (pow_next h))

-- ---- so it is the definition's root

radicand_lt : (x : Float) → T (fits binary64 x) → radicand x < 2 ^ (2 * 1586)
unfolding radicand
radicand_lt x h = shl_lt 2098 1074 (steps_lt binary64 x h)

in_form_root : (x : Float) {r : Float} → T (fits binary64 x) → (a : Shape x r) → IsWholeRoot (a.v * 2 ^ 54 * 2 ^ (2 * a.h)) (whole_root 1586 (radicand x))
unfolding radicand
in_form_root x w a = subst (λ (n : ℕ). IsWholeRoot n (whole_root 1586 (radicand x))) a.form.same (whole_root_is 1586 (radicand x) (radicand_lt x w))

pub is_nearest_root : (x r : Float) → T (fits binary64 x) → Shape x r → r ≡ nearest_root x
unfolding nearest_root
is_nearest_root x r w a =
    let S = whole_root 1586 (radicand x) in
    let n = 2 * S + 1 in
    let hi = never_all_ones a.v a.s a.form.most a.whole in
    let rounds : rounded binary64 n (2 * 2 ^ 1074) ≡ steps binary64 r =
    rounds_to binary64 S a.h a.s (scaled (a.v * 2 ^ 54) a.h S a.s a.whole (in_form_root x w a)) (leading a.v a.s a.form.least a.whole) (omega arith) ∙ sym a.is in
    let v = round_steps binary64 false n (2 * 2 ^ 1074) (subst (λ (m : ℕ). m < overflow binary64) (sym rounds) (steps_lt binary64 r a.number.0)) in
    same_number binary64 r (round binary64 false n (2 * 2 ^ 1074)) a.number (round-fits binary64 false n (2 * 2 ^ 1074), v.2) (a.plus ∙ sym v.1) (sym (v.0 ∙ rounds))
