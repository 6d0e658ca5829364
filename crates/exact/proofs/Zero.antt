-- Zero beside a finite number: 0 + x and x - 0 are x where x is not minus, what lies above zero is not minus and some steps, and a number
-- times 0 is a zero of its sign.
use mathlib.Core.Path.{◌≡◌, refl, ap, ◌∙◌}
use mathlib.Core.Logic.Iff
use mathlib.Core.Logic.{◌↔◌}
use mathlib.Core.Bool.{Bool, true, false, true≢false}
use Prim.Native.Nat.{ℕ, ◌+◌, ◌-◌, ◌*◌, ◌^◌, ◌<◌, zero-le}
use native.Mathlib.Nat.{zero-add, sub-zero, mul-zero, mul-pos}
use native.Mathlib.Omega.{arith}
use lib.IntN.{pos}
use lib.Dec.{T, lit<}
use lib.Ieee.{Float, nan, inf, fin, binary64, low, up, down, unlike, round, mul, lt, of_bits}
use lib.Ieee.Fits.{down_pos}
use lib.Ieee.Bits.{of_bits-fits}
use lib.Ieee.Scale.{overflow, round_same}
use Rattle.exact.specs.Numbers.{nought, Number, is_minus, steps, ◌⊕◌, ◌⊖◌, ◌⊗◌}
use Rattle.exact.proofs.Rounding.{round_same_number}
use Rattle.exact.proofs.Order.{along, place, lt_place}
use Rattle.exact.proofs.Arithmetic.{sum_alike, sum_unlike, add_steps, sub_steps}

pub nought_number : Number binary64 nought
unfolding of_bits
nought_number = (of_bits-fits binary64 0, tt)

pub nought_steps : steps binary64 nought ≡ 0
unfolding steps of_bits
nought_steps = refl

pub nought_plus : is_minus nought ≡ false
unfolding of_bits
nought_plus = refl

module _ (x : Float) (h : Number binary64 x) (plus : is_minus x ≡ false) where
  unit : ℕ
  unit = 2 ^ low binary64

  itself : round binary64 false (steps binary64 x) unit ≡ x
  unfolding unit
  itself = rw plus at (round_same_number binary64 x h)

  pub zero_plus : nought ⊕ x ≡ x
  unfolding unit
  zero_plus =
      add_steps binary64 nought x nought_number h
      ∙ rw (nought_steps, nought_plus, plus) (sum_alike binary64 false 0 (steps binary64 x) unit ∙ ap (λ (n : ℕ). round binary64 false n unit) (zero-add (steps binary64 x)) ∙ itself)

  pub less_zero : x ⊖ nought ≡ x
  unfolding unit
  less_zero =
      sub_steps binary64 x nought h nought_number
      ∙ rw (nought_steps, nought_plus, plus) (sum_unlike binary64 false (steps binary64 x) 0 unit zero-le ∙ ap (λ (n : ℕ). round binary64 false n unit) (sub-zero (steps binary64 x)) ∙ itself)

-- ---- above zero

apart : (o a : ℕ) (s : Bool) → (o + 0 < along o s a) ↔ ((s ≡ false) × (0 < a))
apart o a true = ((λ l. absurd (not_past l)), λ p. absurd (true≢false p.0))
  where
    not_past : o + 0 < o - a → ⊥
    not_past l = omega arith
apart o a false = ((λ l. (refl, omega arith)), λ p. omega (arith, p.1))

pub positive_is : (x : Float) → Number binary64 x → T (lt nought x) ↔ ((is_minus x ≡ false) × (0 < steps binary64 x))
unfolding place
positive_is x h = Iff.trans (rw (nought_plus, nought_steps) at (lt_place binary64 nought x nought_number h)) (apart (overflow binary64) (steps binary64 x) (is_minus x))

-- ---- a number times 0 is a zero of its sign

-- +0 and -0
unfoldable pub zero : Bool → Float
zero s = fin s 0 (pos 0)

round_zero : (s : Bool) (c : ℕ) → 0 < c → round binary64 s 0 c ≡ zero s
unfolding round zero
round_zero s c C = round_same binary64 s 0 c 0 1 C (lit< tt) (omega arith)

pub times_nought : (x : Float) → Number binary64 x → x ⊗ nought ≡ zero (is_minus x)
unfolding mul of_bits
times_nought nan h = absurd h.1
times_nought (inf s) h = absurd h.1
times_nought (fin s m e) h =
    ap (λ (n : ℕ). round binary64 (unlike s false) n (down e * 1)) (mul-zero (m * up e)) ∙ round_zero (unlike s false) (down e * 1) (mul-pos (down_pos e) (lit< tt)) ∙ ap zero (kept s)
  where
    kept : (s : Bool) → unlike s false ≡ s
    kept true = refl
    kept false = refl
