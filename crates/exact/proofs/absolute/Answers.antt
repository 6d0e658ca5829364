-- `exact::absolute` meets its contract. What is at most 0 is taken from 0, which is exact: an infinity, a number with its sign, or 0 itself.
-- What is not at most 0 is NaN or has no sign to lose.
use mathlib.Core.Path.{◌≡◌, refl, sym, ap, ◌∙◌, subst}
use mathlib.Core.Bool.{true, false, true≢false}
use Prim.Native.Nat.{ℕ, ◌+◌, ◌-◌, ◌≤◌}
use native.Mathlib.Omega.{arith}
use lib.Dec.{T}
use lib.Ieee.{Float, nan, inf, fin, binary64, fits, neg, add, sub, lt, eq, le, of_bits}
use lib.Ieee.Scale.{overflow}
use Rattle.exact.specs.Numbers.{nought, Number, magnitude, is_minus, steps, ◌⊖◌}
use Rattle.exact.proofs.Basics.{passed}
use Rattle.exact.proofs.Steps.{same_number}
use Rattle.exact.proofs.Order.{place, le_place}
use Rattle.exact.proofs.Arithmetic.{neg_number}
use Rattle.exact.proofs.Zero.{nought_number, nought_steps, nought_plus, zero_plus}
use Rattle.exact.proofs.absolute.Goals as goal

-- a number not minus and at most 0 is 0
zero_itself : (x : Float) → Number binary64 x → is_minus x ≡ false → T (le x nought) → x ≡ nought
unfolding place
zero_itself x h plus t =
    let l : overflow binary64 + steps binary64 x ≤ overflow binary64 + 0 = rw (plus, nought_plus, nought_steps) at ((le_place binary64 x nought h nought_number).0 t) in
    same_number binary64 x nought h nought_number (plus ∙ sym nought_plus) (none (overflow binary64) (steps binary64 x) l ∙ sym nought_steps)
  where
    none : (o a : ℕ) → o + a ≤ o + 0 → a ≡ 0
    none o a l = omega arith

from_zero : (x : Float) → T (fits binary64 x) → le x nought ≡ true → nought ⊖ x ≡ magnitude x
unfolding sub add neg magnitude le lt eq of_bits
from_zero nan h t = absurd (true≢false (sym t))
from_zero (inf true) h t = refl
from_zero (inf false) h t = absurd (true≢false (sym t))
from_zero (fin true m e) h t = zero_plus (fin false m e) (neg_number binary64 (fin true m e) (h, tt)).0 refl
from_zero (fin false m e) h t =
    let z = zero_itself (fin false m e) (h, tt) refl (passed t) in
    ap (λ (x : Float). nought ⊖ x) z ∙ sym (ap magnitude z)

-- what is minus is at most 0
minus_below : (x : Float) → Number binary64 x → is_minus x ≡ true → T (le x nought)
unfolding place
minus_below x h s = (le_place binary64 x nought h nought_number).1 (rw (s, nought_plus) (below (overflow binary64) (steps binary64 x) (steps binary64 nought)))
  where
    below : (o a b : ℕ) → o - a ≤ o + b
    below o a b = omega arith

kept : (x : Float) → T (fits binary64 x) → le x nought ≡ false → x ≡ magnitude x
unfolding magnitude le lt of_bits
kept nan h t = refl
kept (inf true) h t = absurd (true≢false t)
kept (inf false) h t = refl
kept (fin true m e) h t = absurd (subst T t (minus_below (fin true m e) (h, tt) refl))
kept (fin false m e) h t = refl

pub returns-then-x : goal.returns-then-x
returns-then-x c = from_zero c.args.x (passed c.well_formed.0.1) c.if-x.true

pub returns-else-x : goal.returns-else-x
returns-else-x c = kept c.args.x (passed c.well_formed.0.1) c.if-x.false
