-- The definition of the root by its cases: not finite, below zero, zero, and above zero, where the number has a shape.
use mathlib.Core.Path.{◌≡◌, subst}
use mathlib.Core.Bool.{Bool, true, false, cond, true≢false}
use Prim.Native.Nat.{ℕ, min, ◌+◌, ◌*◌, ◌/◌, ◌^◌, ◌<◌}
use native.Mathlib.Omega.{arith}
use lib.Ieee.{Float, binary64, lt, eq, of_bits, to_bits}
use lib.Ieee.Bits.{of_bits-to_bits}
use Rattle.exact.specs.Numbers.{nought, is_finite, Number, is_minus, steps}
use Rattle.exact.proofs.Basics.{failed}
use Rattle.exact.proofs.Rounding.{round_minus}
use Rattle.exact.proofs.Order.{lt_of_neither}
use Rattle.exact.proofs.Zero.{nought_number, positive_is}
use Rattle.exact.proofs.Words.{positive_word}
use Rattle.root.specs.Said.{root, refused}
use Rattle.root.specs.Form.{InForm}
use Rattle.root.specs.Whole.{whole_root}
use Rattle.root.specs.Root.{radicand, nearest_root, root_of}
use Rattle.root.specs.Paper as paper
use Rattle.root.specs.Paper.{whole_of, after_turns, sheet_of}
use Rattle.root.proofs.Whole.{whole_root_is}
use Rattle.root.proofs.Form.{has_form}
use Rattle.root.proofs.Shape.{Shape, written, is_nearest_root}

pub refuses_not_finite : (x : Float) → is_finite x ≡ false → root_of x ≡ refused 1
unfolding root_of
refuses_not_finite x a = rw a

module _ (x : Float) (finite : is_finite x ≡ true) where
  pub refuses_below_zero : lt x nought ≡ true → root_of x ≡ refused 13
  unfolding root_of
  refuses_below_zero b = rw (finite, b)

  pub keeps_zero : lt x nought ≡ false → eq x nought ≡ true → root_of x ≡ root x
  unfolding root_of
  keeps_zero b z = rw (finite, b, z)

  pub finds_root : lt x nought ≡ false → eq x nought ≡ false → root_of x ≡ root (nearest_root x)
  unfolding root_of
  finds_root b z = rw (finite, b, z)

-- a root of what is not minus is not minus
pub root_plus : (x r : Float) → is_minus x ≡ false → root_of x ≡ root r → is_minus r ≡ false
unfolding root_of nearest_root
root_plus x r p h = go (is_finite x) (lt x nought) (eq x nought) h
  where
    go : (a b c : Bool) → cond a (cond b (refused 13) (cond c (root x) (root (nearest_root x)))) (refused 1) ≡ root r → is_minus r ≡ false
    go true true c e = absurd (true≢false cc)
    go true false true e = let same : x ≡ r = cc in subst (λ (y : Float). is_minus y ≡ false) same p
    go true false false e = let same : nearest_root x ≡ r = cc in subst (λ (y : Float). is_minus y ≡ false) same (round_minus binary64 false (2 * whole_root 1586 (radicand x) + 1) (2 * 2 ^ 1074))
    go false b c e = absurd (true≢false cc)

-- ---- above zero

-- neither below zero nor zero
pub above_zero : (x : Float) → Number binary64 x → lt x nought ≡ false → eq x nought ≡ false → (is_minus x ≡ false) × (0 < steps binary64 x)
above_zero x h b z = (positive_is x h).0 (lt_of_neither binary64 x nought h nought_number (failed b) (failed z))

-- the word of such a number, and the shape of its root
pub word_between : (x : Float) → Number binary64 x → (is_minus x ≡ false) × (0 < steps binary64 x) → (0 < to_bits binary64 x) × (to_bits binary64 x < 0x7ff0_0000_0000_0000)
word_between x h p = positive_word binary64 x h p.0 p.1

pub some_form : (x : Float) → Number binary64 x → (is_minus x ≡ false) × (0 < steps binary64 x) → (v : ℕ) × (h : ℕ) × InForm (steps binary64 x) v h
some_form x h p = let w = word_between x h p in subst (λ (y : Float). (v : ℕ) × (h : ℕ) × InForm (steps binary64 y) v h) (of_bits-to_bits binary64 x h.0) (has_form (to_bits binary64 x) w.0 w.1)

pub shape : (x : Float) → Number binary64 x → (is_minus x ≡ false) × (0 < steps binary64 x) → Shape x (nearest_root x)
shape x h p =
    let f = some_form x h p in
    let s = whole_root 54 (f.0 * 2 ^ 54) in
    let a = written x f.0 f.1 s f.2 (whole_root_is 54 (f.0 * 2 ^ 54) (omega (arith, f.2.most))) in
    subst (Shape x) (is_nearest_root x (of_bits binary64 ((f.1 + 1) * 2 ^ 52 + (s + 1) / 2)) h.0 a) a

-- ---- the sheet, case by case

module _ (x : Float) (n : ℕ) where
  pub shows_sheet : {r : Float} → root_of x ≡ root r → eq x nought ≡ false → sheet_of x n ≡ paper.sheet (after_turns (whole_of (steps binary64 x)) (min n 54))
  unfolding sheet_of
  shows_sheet e z = rw (e, z)

  pub shows_zero : {r : Float} → root_of x ≡ root r → eq x nought ≡ true → sheet_of x n ≡ paper.zero_itself
  unfolding sheet_of
  shows_zero e z = rw (e, z)

  pub shows_refused : {k : ℕ} → root_of x ≡ refused k → sheet_of x n ≡ paper.refused k
  unfolding sheet_of
  shows_refused e = rw e
