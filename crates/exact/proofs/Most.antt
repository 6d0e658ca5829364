-- What sums, products and quotients of numbers without a minus are at most: no more than n steps, where the exact result is no more and n steps
-- are a number of binary64. So they are finite. And a whole number below 2^53 is itself in binary64.
use mathlib.Core.Path.{◌≡◌, refl, sym, ◌∙◌}
use mathlib.Core.Bool.{false}
use Prim.Native.Nat.{ℕ, ◌+◌, ◌*◌, ◌^◌, ◌≤◌, ◌<◌}
use native.Mathlib.Nat.{le_trans, le_of_eq, lt_trans, lt_of_le_of_lt, mul-one, mul_assoc, mul-pos, mul-le-mul_right, mul-lt-mul_of_pos_right}
use lib.IntN.{pos}
use lib.Dec.{T, lit<}
use lib.Pow.{pow_pos}
use lib.Ieee.{Float, binary64, low, fits, round, of_int}
use lib.Ieee.Fits.{round-fits}
use lib.Ieee.Scale.{overflow}
use Rattle.exact.specs.Numbers.{steps, in_steps, ◌⊕◌, ◌⊗◌, ◌⊘◌}
use Rattle.exact.proofs.Steps.{Moved, moved, steps_lt}
use Rattle.exact.proofs.Rounding.{few_le, few_exact, round_steps}
use Rattle.exact.proofs.Arithmetic.{sum_alike, add_steps, mul_steps, div_steps}
use Rattle.exact.proofs.Signs.{Plus}

-- a finite number without a minus, of at most n steps
pub record AtMost (n : ℕ) (x : Float) : Type 0 where
  pub plus : Plus x
  pub most : steps binary64 x ≤ n

-- n steps are a number of binary64: few digits, and below overflow
abbrev pub Held : ℕ → Type 0
Held n = Moved binary64 n × (n < overflow binary64)

-- as those of a number are
pub steps_held : (x : Float) → T (fits binary64 x) → Held (steps binary64 x)
steps_held x w = (moved binary64 x w, steps_lt binary64 x w)

-- and as a whole number below 2^53 is
pub whole_held : (n : ℕ) → n < 2 ^ 53 → Held (n * in_steps 0)
unfolding in_steps
whole_held n h = (record { significand = n; places = low binary64; few = h; is = refl }, lt_trans (mul-lt-mul_of_pos_right h (pow_pos (low binary64))) (lit< tt))

round_most : (a c n : ℕ) → 0 < c → Held n → a * 2 ^ low binary64 ≤ n * c → AtMost n (round binary64 false a c)
round_most a c n C h l =
    let m = few_le binary64 a c n C h.0 l in
    let v = round_steps binary64 false a c (lt_of_le_of_lt m h.1) in
    record { plus = ((round-fits binary64 false a c, v.2), v.1); most = rw v.0 m }

-- in binary64 a whole number below 2^53 is itself
pub whole_steps : (n : ℕ) → n < 2 ^ 53 → Plus (of_int binary64 (pos n)) × (steps binary64 (of_int binary64 (pos n)) ≡ n * 2 ^ low binary64)
unfolding of_int in_steps
whole_steps n h =
    let held = whole_held n h in
    let is = few_exact binary64 n 1 (n * 2 ^ low binary64) (lit< tt) held.0 (sym (mul-one (n * 2 ^ low binary64))) in
    let v = round_steps binary64 false n 1 (rw is held.1) in
    (((round-fits binary64 false n 1, v.2), v.1), v.0 ∙ is)

module _ (x y : Float) (p : Plus x) (q : Plus y) (n : ℕ) (h : Held n) where
  L : ℕ
  L = 2 ^ low binary64

  pub add_most : steps binary64 x + steps binary64 y ≤ n → AtMost n (x ⊕ y)
  unfolding L
  add_most l =
      let is : x ⊕ y ≡ round binary64 false (steps binary64 x + steps binary64 y) L = add_steps binary64 x y p.0 q.0 ∙ rw (p.1, q.1) (sum_alike binary64 false (steps binary64 x) (steps binary64 y) L) in
      rw is (round_most (steps binary64 x + steps binary64 y) L n (pow_pos (low binary64)) h (mul-le-mul_right L l))

  pub mul_most : steps binary64 x * steps binary64 y ≤ n * 2 ^ low binary64 → AtMost n (x ⊗ y)
  unfolding L
  mul_most l =
      let is : x ⊗ y ≡ round binary64 false (steps binary64 x * steps binary64 y) (L * L) = rw (p.1, q.1) at (mul_steps binary64 x y p.0 q.0) in
      rw is (round_most (steps binary64 x * steps binary64 y) (L * L) n (mul-pos (pow_pos (low binary64)) (pow_pos (low binary64))) h (le_trans (mul-le-mul_right L l) (le_of_eq (mul_assoc n L L))))

  pub div_most : 0 < steps binary64 y → steps binary64 x * 2 ^ low binary64 ≤ n * steps binary64 y → AtMost n (x ⊘ y)
  div_most some l =
      let is : x ⊘ y ≡ round binary64 false (steps binary64 x) (steps binary64 y) = rw (p.1, q.1) at (div_steps binary64 x y p.0 q.0 some) in
      rw is (round_most (steps binary64 x) (steps binary64 y) n some h l)
