-- The middle lo + (hi - lo) / 2 of the starting bracket lies in it: of 0 and X forwards, and of -X and 0 backwards, for every finite X not
-- minus. With a the steps of X and h those of X / 2, h is at most a, since a is a number of the format; what is left is a - h, or h.
use mathlib.Core.Path.{◌≡◌, refl, ap, ◌∙◌}
use mathlib.Core.Bool.{Bool, true, false, not}
use Prim.Native.Nat.{ℕ, ◌+◌, ◌-◌, ◌^◌, ◌≤◌, ◌<◌, zero-le}
use native.Mathlib.Nat.{le_of_eq, sub-le, sub-eq-zero_of_le, mul-le-mul_right, le_of_lt, lt_of_le_of_lt, mul-le-mul_left}
use native.Mathlib.Omega.{arith}
use lib.Dec.{T, ltb, lit<, nltb→le}
use lib.Pow.{pow_pos}
use lib.Ieee.{Float, nan, inf, fin, binary64, low, round, neg, sub, le, of_bits}
use lib.Ieee.Fits.{round-fits}
use lib.Ieee.Scale.{overflow}
use Rattle.exact.specs.Numbers.{nought, Number, two, middle, is_minus, steps, ◌⊕◌, ◌⊖◌, ◌⊘◌}
use Rattle.exact.proofs.Steps.{steps_lt}
use Rattle.exact.proofs.Rounding.{rounded, rounded_le, round_steps}
use Rattle.exact.proofs.Order.{along, place, le_place, plus_le}
use Rattle.exact.proofs.Zero.{nought_number, nought_steps, nought_plus, zero_plus, less_zero}
use Rattle.exact.proofs.Constants.{two_number}
use Rattle.exact.proofs.Most.{AtMost, steps_held, div_most}
use Rattle.exact.proofs.Arithmetic.{sum_unlike, neg_number, add_steps}

-- ---- half of a number

two_plus : is_minus two ≡ false
unfolding of_bits
two_plus = refl

more_than_one : 2 ^ low binary64 < steps binary64 two
unfolding steps of_bits
more_than_one = lit< tt

-- not minus, and no more than the number
half_within : (x : Float) → Number binary64 x → is_minus x ≡ false → AtMost (steps binary64 x) (x ⊘ two)
half_within x h plus = div_most x two (h, plus) (two_number, two_plus) (steps binary64 x) (steps_held x h.0) (lt_of_le_of_lt zero-le more_than_one) (mul-le-mul_left (steps binary64 x) (le_of_lt more_than_one))

-- ---- forwards

pub middle_forwards : (x : Float) → Number binary64 x → is_minus x ≡ false → T (le nought (middle nought x)) × T (le (middle nought x) x)
middle_forwards x h plus =
    let w = half_within x h plus in
    let is : middle nought x ≡ x ⊘ two = ap (λ (z : Float). nought ⊕ z ⊘ two) (less_zero x h plus) ∙ zero_plus (x ⊘ two) w.plus.0 w.plus.1 in
    rw is ((plus_le binary64 nought (x ⊘ two) nought_number w.plus.0 nought_plus w.plus.1).1 (rw nought_steps zero-le), (plus_le binary64 (x ⊘ two) x w.plus.0 h w.plus.1 plus).1 w.most)

-- ---- backwards

neg_neg : (x : Float) → neg (neg x) ≡ x
unfolding neg
neg_neg nan = refl
neg_neg (inf true) = refl
neg_neg (inf false) = refl
neg_neg (fin true m e) = refl
neg_neg (fin false m e) = refl

zero_less_neg : (x : Float) → Number binary64 x → is_minus x ≡ false → nought ⊖ neg x ≡ x
unfolding sub
zero_less_neg x h plus = ap (λ (z : Float). nought ⊕ z) (neg_neg x) ∙ zero_plus x h plus

-- from -a on by a or less: not past 0, where nothing is left once the sign is gone
between : (o a r : ℕ) (u : Bool) → r ≤ a → (T (not u) → r ≤ 0) → (o - a ≤ along o u r) × (along o u r ≤ o + 0)
between o a r true l n = (omega arith, omega arith)
between o a r false l n = let z = n tt in (omega arith, omega arith)

-- -x and a part y of x: what is left of x, minus unless nothing is left
module _ (x y : Float) (h : Number binary64 x) (plus : is_minus x ≡ false) (w : AtMost (steps binary64 x) y) where
  rest : ℕ
  rest = steps binary64 x - steps binary64 y

  under : Bool
  under = ltb (steps binary64 y) (steps binary64 x)

  unit : ℕ
  unit = 2 ^ low binary64

  left_over : neg x ⊕ y ≡ round binary64 under rest unit
  unfolding rest under unit
  left_over =
      let n = neg_number binary64 x h in
      add_steps binary64 (neg x) y n.0 w.plus.0 ∙ rw (n.1, n.2, plus, w.plus.1) (sum_unlike binary64 true (steps binary64 x) (steps binary64 y) unit w.most)

  -- at most what a number z has, if the rest is
  at_most : (z : Float) → Number binary64 z → rest ≤ steps binary64 z → rounded binary64 rest unit ≤ steps binary64 z
  unfolding unit
  at_most z k l = rounded_le binary64 rest unit z (pow_pos (low binary64)) k.0 (mul-le-mul_right unit l)

  fine : rounded binary64 rest unit < overflow binary64
  unfolding rest
  fine = lt_of_le_of_lt (at_most x h (sub-le (steps binary64 x) (steps binary64 y))) (steps_lt binary64 x h.0)

  -- nothing is left where the sign is gone
  gone : T (not under) → rounded binary64 rest unit ≤ 0
  unfolding rest under
  gone n = rw nought_steps at (at_most nought nought_number (rw nought_steps (le_of_eq (sub-eq-zero_of_le (nltb→le (steps binary64 y) (steps binary64 x) n)))))

  left_between : T (le (neg x) (neg x ⊕ y)) × T (le (neg x ⊕ y) nought)
  unfolding place rest
  left_between =
      let n = neg_number binary64 x h in
      let m = round binary64 under rest unit in
      let v = round_steps binary64 under rest unit fine in
      let number : Number binary64 m = (round-fits binary64 under rest unit, v.2) in
      let b = between (overflow binary64) (steps binary64 x) (rounded binary64 rest unit) under (at_most x h (sub-le (steps binary64 x) (steps binary64 y))) gone in
      rw left_over ((le_place binary64 (neg x) m n.0 number).1 (rw (n.1, n.2, v.0, v.1, plus) b.0), (le_place binary64 m nought number nought_number).1 (rw (v.0, v.1, nought_plus, nought_steps) b.1))

pub middle_backwards : (x : Float) → Number binary64 x → is_minus x ≡ false → T (le (neg x) (middle (neg x) nought)) × T (le (middle (neg x) nought) nought)
middle_backwards x h plus = rw (zero_less_neg x h plus) (left_between x (x ⊘ two) h plus (half_within x h plus))
