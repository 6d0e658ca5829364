-- How many records of one width some bytes have: where a record lies, and what one more record, the last one, and whole records say of the quotient.
use mathlib.Core.Path.{◌≡◌, sym, ap, ◌∙◌}
use Prim.Native.Nat.{ℕ, ◌+◌, ◌-◌, ◌*◌, ◌/◌, ◌%◌, ◌≤◌, ◌<◌}
use native.Mathlib.Nat.{mul_comm, mul-suc, div-add-mod, mul-div-le, le-div_iff_mul-le, div-eq_of_lt-le, mul-div_right, mul-mod_right}
use native.Mathlib.Numerals.{add-one}
use native.Mathlib.Omega.{arith}

-- the place behind record i
pub stepped : (w i : ℕ) → w * (i + 1) ≡ w * i + w
stepped w i = ap (λ (n : ℕ). w * n) (add-one i) ∙ mul-suc w i

module _ (w : ℕ) (some : 0 < w) where
  -- while a record is left
  pub one_left : (i at long : ℕ) → at ≡ w * i → at ≤ long → w ≤ long - at → i + 1 ≤ long / w
  one_left i at long e h room = (le-div_iff_mul-le some).1 (omega (arith, e, mul_comm (i + 1) w ∙ stepped w i))

  -- after the last one
  pub all_met : (i at long : ℕ) → at ≡ w * i → at ≤ long → long - at < w → i ≡ long / w
  all_met i at long e h few = sym (div-eq_of_lt-le w (omega (arith, e, mul_comm i w)) (omega (arith, e, mul_comm (i + 1) w ∙ stepped w i)))

  -- the bytes of a record lie inside
  pub one_inside : (i long : ℕ) → i < long / w → w * i + w ≤ long
  one_inside i long h =
      let more : (i + 1) * w ≤ long = (le-div_iff_mul-le {x = i + 1} {y = long} some).0 (omega (arith, h)) in
      omega (arith, more, mul_comm (i + 1) w ∙ stepped w i)

  -- the records that are whole lie inside
  pub inside : (long : ℕ) → w * (long / w) ≤ long
  inside long = mul-div-le long w

  pub none_cut : (long : ℕ) → long % w ≡ 0 → long ≡ w * (long / w)
  none_cut long e = omega (arith, div-add-mod long w, e)

  -- n records
  pub counted : (n long : ℕ) → long ≡ w * n → (long / w ≡ n) × (long % w ≡ 0)
  counted n long e = (ap (λ (l : ℕ). l / w) e ∙ mul-div_right n some, ap (λ (l : ℕ). l % w) e ∙ mul-mod_right w n)
