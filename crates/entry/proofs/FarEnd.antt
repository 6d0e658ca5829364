-- The far end of the bracket is never refused, and it is a number above 0 and at most 63.5. Where |alpha| is above 1/64, its root is at least
-- 1/8: were it less, the middle between it and 1/8 would lie above the exact root, whose square would lie below 1/64. And 7.9375 over 1/8 is 63.5.
-- It is small beside alpha (universal's `Small`): 7.9375² is 63.004, which leaves room for the roundings of root and quotient below 63.5.
use mathlib.Core.Path.{◌≡◌, refl, sym, ap, ◌∙◌, subst}
use mathlib.Core.Bool.{Bool, true, false}
use Prim.Native.Nat.{ℕ, ◌+◌, ◌*◌, ◌^◌, ◌≤◌, ◌<◌, zero-le}
use native.Mathlib.Nat.{le_trans, le_of_eq, le_of_lt, lt_of_lt_of_le, lt_of_le_of_lt, lt_of_not-le, not-le_of_lt, mul-le-mul_left, mul-le-mul_right, lt_of_mul-lt-mul_right, le_of_mul-le-mul_right}
use native.Mathlib.Omega.{arith}
use lib.Dec.{T, T_not, lit<, lit≤}
use lib.Ieee.{Float, binary64, low, lt, le, eq, of_bits}
use lib.Ieee.Bits.{of_bits-fits}
use lib.Ieee.Scale.{overflow}
use Rattle.exact.specs.Numbers.{◌⊘◌, number_of, nought, Number, magnitude, is_minus, steps, in_steps}
use Rattle.exact.proofs.Basics.{passed, failed, not_below}
use Rattle.exact.proofs.Steps.{steps_lt}
use Rattle.exact.proofs.Order.{plus_le, plus_lt}
use Rattle.exact.proofs.Signs.{Plus, magnitude_plus, div_plus}
use Rattle.exact.proofs.Most.{steps_held}
use Rattle.exact.proofs.Constants.{one_some}
use Rattle.exact.proofs.Coarse.{far_below, div_coarse}
use Rattle.exact.proofs.Sizes.{magnitude_steps, magnitude_le}
use Rattle.exact.proofs.OneStep.{div_some}
use Rattle.exact.proofs.Zero.{positive_is}
use Rattle.root.specs.Root.{radicand, sum_in_steps, Nearest}
use Rattle.root.proofs.Whole.{square_le}
use Rattle.root.proofs.Theorems.{definition_holds}
use Rattle.root.proofs.Coarse.{square_of_root}
use Rattle.universal.proofs.Range.{Small}
use Rattle.rows.specs.Rows.{pass, onward}
use Rattle.units.specs.Units.{rooted}
use Rattle.entry.specs.Entry.{sixty_fourth, farthest, reach, far_end_of}

-- ---- the closed numbers

abbrev eighth : Float
eighth = number_of 0x3fc0_0000_0000_0000

sixty_fourth_plus : Plus sixty_fourth
unfolding of_bits
sixty_fourth_plus = ((of_bits-fits binary64 0x3f90_0000_0000_0000, tt), refl)

eighth_plus : Plus eighth
unfolding of_bits
eighth_plus = ((of_bits-fits binary64 0x3fc0_0000_0000_0000, tt), refl)

reach_plus : Plus reach
unfolding of_bits
reach_plus = ((of_bits-fits binary64 0x401f_c000_0000_0000, tt), refl)

farthest_plus : Plus farthest
unfolding of_bits
farthest_plus = ((of_bits-fits binary64 0x404f_c000_0000_0000, tt), refl)

sixty_fourth_steps : 64 * steps binary64 sixty_fourth ≡ in_steps 0
unfolding steps of_bits in_steps
sixty_fourth_steps = refl

reach_steps : 16 * steps binary64 reach ≡ 127 * in_steps 0
unfolding steps of_bits in_steps
reach_steps = refl

farthest_steps : 2 * steps binary64 farthest ≡ 127 * in_steps 0
unfolding steps of_bits in_steps
farthest_steps = refl

square_of_eighth : steps binary64 eighth * steps binary64 eighth ≡ steps binary64 sixty_fourth * 2 ^ 1074
unfolding steps of_bits
square_of_eighth = refl

eighth_of_farthest : steps binary64 reach * in_steps 0 ≡ steps binary64 farthest * steps binary64 eighth
unfolding steps of_bits in_steps
eighth_of_farthest = refl

-- 7.9375 over the largest number is still more than one step
more_than_a_step : (n : ℕ) → n < overflow binary64 → n ≤ steps binary64 reach * 2 ^ low binary64
unfolding steps of_bits
more_than_a_step n l = le_trans (le_of_lt l) (lit≤ tt)

eighth_pos : 0 < steps binary64 eighth
unfolding steps of_bits
eighth_pos = lit< tt

-- ---- the root of a number above 1/64

too_low : (e s m l r : ℕ) → e * e ≡ s * l → r < e → 4 * (m * l) < (r + e) * (r + e) → m < s
too_low e s m l r q h k =
    let b : (r + e) * (r + e) ≤ (e + e) * (e + e) = square_le (omega arith) in
    lt_of_mul-lt-mul_right l (omega arith)

root_least : (x r : Float) → steps binary64 sixty_fourth < steps binary64 x → Nearest x r → Plus r × (steps binary64 eighth ≤ steps binary64 r)
unfolding radicand sum_in_steps
root_least x r above n = ((n.number, plus), not_below (λ l. not-le_of_lt (under l) (le_of_lt above)))
  where
    plus : is_minus r ≡ false
    plus = ((positive_is r n.number).0 n.positive).0

    under : steps binary64 r < steps binary64 eighth → steps binary64 x < steps binary64 sixty_fourth
    under l =
        let q = n.above eighth eighth_plus.0 ((plus_lt binary64 r eighth n.number eighth_plus.0 plus eighth_plus.1).1 l) in
        too_low (steps binary64 eighth) (steps binary64 sixty_fourth) (steps binary64 x) (2 ^ 1074) (steps binary64 r) square_of_eighth l (rw eighth_plus.1 at q)

-- ---- alpha·X² ≤ 63.5, over whole numbers: a is alpha, k its root, c 7.9375, and L is 1

at_farthest : (a X L : ℕ) → 64 * a ≤ L → 2 * X ≡ 127 * L → 2 * (a * (X * X)) ≤ 127 * (L * (L * L))
at_farthest a X L l e =
    let square : 4 * (X * X) ≡ 127 * 127 * (L * L) = omega (arith, ap (λ (n : ℕ). n * n) e) in
    omega (arith, mul-le-mul_right (X * X) l, ap (λ (n : ℕ). L * n) square)

at_quotient : (a k c X L : ℕ) → 0 < L → 1024 * 1024 * (a * L) ≤ 1025 * 1025 * (k * k) → 1024 * (X * k) ≤ 1025 * (c * L) + 512 * k → 16 * c ≡ 127 * L
    → 2 ^ 50 * k ≤ L * L → 2 * (a * (X * X)) ≤ 127 * (L * (L * L))
at_quotient a k c X L some root quotient e below =
    let near : 16384 * (X * k) ≤ 130176 * (L * L) = omega (arith, ap (λ (n : ℕ). n * L) e) in
    le_of_mul-le-mul_right {k = L} (omega (arith, mul-le-mul_right (X * X) root, square_le near)) some

at_most_sixty_four : (X f L : ℕ) → X ≤ f → 2 * f ≡ 127 * L → X ≤ 64 * L
at_most_sixty_four X f L l e = omega arith

-- ---- 7.9375 over a root of at least 1/8

pub record IsFarEnd (alpha x : Float) : Type 0 where
  pub number : Number binary64 x
  pub plus : is_minus x ≡ false
  pub positive : T (lt nought x)
  pub most : T (le x farthest)
  pub small : Small x alpha

quotient : (alpha r : Float) → Plus r → steps binary64 eighth ≤ steps binary64 r → 1024 * 1024 * (steps binary64 alpha * in_steps 0) ≤ 1025 * 1025 * (steps binary64 r * steps binary64 r) → IsFarEnd alpha (reach ⊘ r)
quotient alpha r p l root =
    let k = steps binary64 r in
    let X = steps binary64 (reach ⊘ r) in
    let C : 0 < k = lt_of_lt_of_le eighth_pos l in
    let w = div_coarse reach r reach_plus.0 p.0 (steps binary64 farthest) (steps_held farthest farthest_plus.0.0) C (le_trans (le_of_eq eighth_of_farthest) (mul-le-mul_left (steps binary64 farthest) l)) in
    let n = w.number in
    let plus = div_plus binary64 reach r (reach_plus.1 ∙ sym p.1) in
    record {
      number = n;
      plus = plus;
      positive = (positive_is (reach ⊘ r) n).1 (plus, div_some reach r reach_plus p C (more_than_a_step k (steps_lt binary64 r p.0.0)) n.1);
      most = (plus_le binary64 (reach ⊘ r) farthest n farthest_plus.0 plus farthest_plus.1).1 w.most;
      small = record {
        product = at_quotient (steps binary64 alpha) k (steps binary64 reach) X (in_steps 0) one_some root w.near reach_steps (far_below r p.0.0);
        bounded = at_most_sixty_four X (steps binary64 farthest) (in_steps 0) w.most farthest_steps;
      };
    }

-- ---- 63.5 itself

farthest_far : (alpha : Float) → 64 * steps binary64 alpha ≤ in_steps 0 → IsFarEnd alpha farthest
unfolding of_bits lt le eq
farthest_far alpha l = record {
  number = farthest_plus.0;
  plus = farthest_plus.1;
  positive = tt;
  most = tt;
  small = record {
    product = at_farthest (steps binary64 alpha) (steps binary64 farthest) (in_steps 0) l farthest_steps;
    bounded = at_most_sixty_four (steps binary64 farthest) (steps binary64 farthest) (in_steps 0) (le_of_eq refl) farthest_steps;
  };
}

-- ---- the far end

above_sixty_fourth : (x : Float) → Plus x → le x sixty_fourth ≡ false → steps binary64 sixty_fourth < steps binary64 x
above_sixty_fourth x p e = lt_of_not-le (λ l. T_not (le x sixty_fourth) (failed e) ((plus_le binary64 x sixty_fourth p.0 sixty_fourth_plus.0 p.1 sixty_fourth_plus.1).1 l))

at_most_sixty_fourth : (alpha : Float) → Number binary64 alpha → le (magnitude alpha) sixty_fourth ≡ true → 64 * steps binary64 alpha ≤ in_steps 0
at_most_sixty_fourth alpha h e = le_trans (mul-le-mul_left 64 ((magnitude_le alpha sixty_fourth h sixty_fourth_plus).0 (passed e))) (le_of_eq sixty_fourth_steps)

root_of_size : (alpha r : Float) → Number binary64 alpha → T (lt nought (magnitude alpha)) → Nearest (magnitude alpha) r → 1024 * 1024 * (steps binary64 alpha * in_steps 0) ≤ 1025 * 1025 * (steps binary64 r * steps binary64 r)
root_of_size alpha r h positive n = rw (magnitude_steps binary64 alpha) at (square_of_root (magnitude alpha) r (magnitude_plus alpha h).0 positive n)

pub far_end : (alpha : Float) → Number binary64 alpha → (x : Float) × (far_end_of alpha ≡ pass x) × IsFarEnd alpha x
unfolding far_end_of rooted onward
far_end alpha h = go (le (magnitude alpha) sixty_fourth) refl
  where
    go : (b : Bool) → le (magnitude alpha) sixty_fourth ≡ b → (x : Float) × (far_end_of alpha ≡ pass x) × IsFarEnd alpha x
    go true e = (farthest, rw e, farthest_far alpha (at_most_sixty_fourth alpha h e))
    go false e =
        let p = magnitude_plus alpha h in
        let above = above_sixty_fourth (magnitude alpha) p e in
        let positive = (positive_is (magnitude alpha) p.0).1 (p.1, lt_of_le_of_lt zero-le above) in
        let r = (definition_holds (magnitude alpha) p.0.0).above_zero p.0.1 positive in
        let k = root_least (magnitude alpha) r.0 above r.2 in
        (reach ⊘ r.0, rw (e, r.1), quotient alpha r.0 k.0 k.1 (root_of_size alpha r.0 h positive r.2))

-- whatever passes as the far end is that one
pub far_end_is : (alpha x : Float) → Number binary64 alpha → far_end_of alpha ≡ pass x → IsFarEnd alpha x
far_end_is alpha x h e = let f = far_end alpha h in let same : f.0 ≡ x = cc in subst (IsFarEnd alpha) same f.2
