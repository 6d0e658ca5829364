-- Comparisons of finite numbers as an order of whole numbers. A number's place is its distance in steps from -overflow, so that every
-- comparison of the format's numbers, of either sign, is one of places, and so is the exact gap.
use mathlib.Core.Path.{◌≡◌, refl, ◌∙◌}
use mathlib.Core.Logic.Iff
use mathlib.Core.Logic.{inl, inr, ◌↔◌}
use mathlib.Core.Bool.{Bool, true, false, not, cond, ◌&&◌, beq, true≢false}
use Prim.Native.Nat.{ℕ, ◌+◌, ◌-◌, ◌*◌, ◌^◌, ◌≤◌, ◌<◌}
use native.Mathlib.Nat.{le_of_eq, le_of_lt, lt_of_le_of_lt, eq-or-lt_of_le}
use native.Mathlib.Omega.{arith}
use lib.IntN.{ℤ}
use lib.Dec.{T, eqb, ltb→lt, lt→ltb, eqb→eq, T_not, not_T}
use lib.Pow.{pow_pos}
use lib.Ieee.{Float, nan, inf, fin, Format, low, up, down, below, level, round, lt, eq, le}
use lib.Ieee.Fits.{eq→eqb, and_i, and_l, and_r, round-fits}
use lib.Ieee.Order.{round_mono}
use lib.Ieee.Scale.{overflow}
use Rattle.exact.specs.Numbers.{is_finite, Number, is_minus, steps, distance, gap}
use Rattle.exact.proofs.Basics.{or_split, or_l, or_r, not_below}
use Rattle.exact.proofs.Steps.{steps_lt}
use Rattle.exact.proofs.Rounding.{rounded, round_steps, round_finite, round_minus}
use Rattle.exact.proofs.Fractions.{scaled_below, scaled_level, left, right, denominators_pos}

-- ---- the comparisons, in signs and steps

-- a comparison by a test on fractions over one denominator, which the denominator does not matter to
module _ (compared : Float → Float → Bool) (test : Bool → ℕ → Bool → ℕ → Bool)
    (over_one : (s : Bool) (m : ℕ) (e : ℤ) (t : Bool) (n : ℕ) (d : ℤ) → compared (fin s m e) (fin t n d) ≡ test s (m * up e * down d) t (n * up d * down e))
    (scales : (L D : ℕ) → 0 < L → 0 < D → (s t : Bool) (X Y a b : ℕ) → X * L ≡ a * D → Y * L ≡ b * D → test s X t Y ≡ test s a t b) where
  by_steps : (f : Format) (x y : Float) → Number f x → Number f y → compared x y ≡ test (is_minus x) (steps f x) (is_minus y) (steps f y)
  by_steps f nan y h k = absurd h.1
  by_steps f (inf s) y h k = absurd h.1
  by_steps f (fin s m e) nan h k = absurd k.1
  by_steps f (fin s m e) (inf t) h k = absurd k.1
  by_steps f (fin s m e) (fin t n d) h k =
      over_one s m e t n d
      ∙ scales (2 ^ low f) (down e * down d) (pow_pos (low f)) (denominators_pos f s m e t n d h k) s t (m * up e * down d) (n * up d * down e)
      (steps f (fin s m e)) (steps f (fin t n d)) (left f s m e t n d h k) (right f s m e t n d h k)

lt_over_one : (s : Bool) (m : ℕ) (e : ℤ) (t : Bool) (n : ℕ) (d : ℤ) → lt (fin s m e) (fin t n d) ≡ below s (m * up e * down d) t (n * up d * down e)
unfolding lt
lt_over_one s m e t n d = refl

eq_over_one : (s : Bool) (m : ℕ) (e : ℤ) (t : Bool) (n : ℕ) (d : ℤ) → eq (fin s m e) (fin t n d) ≡ level s (m * up e * down d) t (n * up d * down e)
unfolding eq
eq_over_one s m e t n d = refl

lt_steps : (f : Format) (x y : Float) → Number f x → Number f y → lt x y ≡ below (is_minus x) (steps f x) (is_minus y) (steps f y)
lt_steps = by_steps lt below lt_over_one scaled_below

eq_steps : (f : Format) (x y : Float) → Number f x → Number f y → eq x y ≡ level (is_minus x) (steps f x) (is_minus y) (steps f y)
eq_steps = by_steps eq level eq_over_one scaled_level

-- ---- the place on the line

abbrev pub along : ℕ → Bool → ℕ → ℕ
along o s a = cond s (o - a) (o + a)

unfoldable pub place : Format → Float → ℕ
place f x = along (overflow f) (is_minus x) (steps f x)

alike : (a b : ℕ) → T (eqb a b && true) ↔ (a ≡ b)
alike a b = (λ h. eqb→eq a b (and_l (eqb a b) true h), λ e. and_i (eqb a b) true (eq→eqb e) tt)

noughts : (a b : ℕ) → T (eqb a b && eqb a 0) ↔ ((a ≡ b) × (a ≡ 0))
noughts a b = (
  (λ h. (eqb→eq a b (and_l (eqb a b) (eqb a 0) h), eqb→eq a 0 (and_r (eqb a b) (eqb a 0) h))),
  λ e. and_i (eqb a b) (eqb a 0) (eq→eqb e.0) (eq→eqb e.1),
)

module _ (o : ℕ) where
  below_along : (s t : Bool) (a b : ℕ) → a < o → b < o → T (below s a t b) ↔ (along o s a < along o t b)
  below_along false false a b A B = (λ h. omega (arith, ltb→lt a b h), λ h. lt→ltb a b (omega arith))
  below_along false true a b A B = (λ h. absurd h, λ h. omega arith)
  below_along true false a b A B = (λ h. omega (arith, ltb→lt 0 (a + b) h), λ h. lt→ltb 0 (a + b) (omega arith))
  below_along true true a b A B = (λ h. omega (arith, ltb→lt b a h), λ h. lt→ltb b a (omega arith))

  level_along : (s t : Bool) (a b : ℕ) → a < o → b < o → T (level s a t b) ↔ (along o s a ≡ along o t b)
  level_along false false a b A B = (λ h. omega (arith, (alike a b).0 h), λ h. (alike a b).1 (omega arith))
  level_along false true a b A B = (λ h. omega (arith, (noughts a b).0 h), λ h. (noughts a b).1 (omega arith))
  level_along true false a b A B = (λ h. omega (arith, (noughts a b).0 h), λ h. (noughts a b).1 (omega arith))
  level_along true true a b A B = (λ h. omega (arith, (alike a b).0 h), λ h. (alike a b).1 (omega arith))

  gap_along : (s t : Bool) (a b : ℕ) → a < o → b < o → cond (beq s t) (distance a b) (a + b) ≡ distance (along o s a) (along o t b)
  gap_along false false a b A B = omega arith
  gap_along false true a b A B = omega arith
  gap_along true false a b A B = omega arith
  gap_along true true a b A B = omega arith

-- ---- the laws, for two finite numbers

module _ (f : Format) (x y : Float) (h : Number f x) (k : Number f y) where
  x_in : steps f x < overflow f
  x_in = steps_lt f x h.0

  y_in : steps f y < overflow f
  y_in = steps_lt f y k.0

  pub lt_place : T (lt x y) ↔ (place f x < place f y)
  unfolding place
  lt_place = rw (lt_steps f x y h k) (below_along (overflow f) (is_minus x) (is_minus y) (steps f x) (steps f y) x_in y_in)

  pub eq_place : T (eq x y) ↔ (place f x ≡ place f y)
  unfolding place
  eq_place = rw (eq_steps f x y h k) (level_along (overflow f) (is_minus x) (is_minus y) (steps f x) (steps f y) x_in y_in)

  pub le_place : T (le x y) ↔ (place f x ≤ place f y)
  unfolding le
  le_place = (
    (λ t. elim (or_split (lt x y) (eq x y) t) [ inl u ↦ le_of_lt (lt_place.0 u) | inr u ↦ le_of_eq (eq_place.0 u) ]),
    λ l. elim (eq-or-lt_of_le l) [ inl u ↦ or_r (lt x y) (eq x y) (eq_place.1 u) | inr u ↦ or_l (lt x y) (eq x y) (lt_place.1 u) ],
  )

  pub gap_place : gap f x y ≡ distance (place f x) (place f y)
  unfolding gap place
  gap_place = gap_along (overflow f) (is_minus x) (is_minus y) (steps f x) (steps f y) x_in y_in

-- of two that are not minus, the steps compare
from_the_same : (o a b : ℕ) → ((o + a ≤ o + b) ↔ (a ≤ b)) × ((o + a < o + b) ↔ (a < b))
from_the_same o a b = omega arith

module _ (f : Format) (x y : Float) (h : Number f x) (k : Number f y) (p : is_minus x ≡ false) (q : is_minus y ≡ false) where
  pub plus_le : T (le x y) ↔ (steps f x ≤ steps f y)
  unfolding place
  plus_le = Iff.trans (rw (p, q) at (le_place f x y h k)) (from_the_same (overflow f) (steps f x) (steps f y)).0

  pub plus_lt : T (lt x y) ↔ (steps f x < steps f y)
  unfolding place
  plus_lt = Iff.trans (rw (p, q) at (lt_place f x y h k)) (from_the_same (overflow f) (steps f x) (steps f y)).1

-- of below, equal and above one holds
module _ (f : Format) (x y : Float) (h : Number f x) (k : Number f y) where
  pub above_alone : T (lt y x) → T (not (lt x y)) × T (not (eq x y))
  above_alone t =
      let l = (lt_place f y x k h).0 t in
      (not_T (lt x y) (λ u. let m = (lt_place f x y h k).0 u in omega arith), not_T (eq x y) (λ u. let m = (eq_place f x y h k).0 u in omega arith))

  pub equal_alone : T (eq x y) → T (not (lt x y))
  equal_alone t = let e = (eq_place f x y h k).0 t in not_T (lt x y) (λ u. let m = (lt_place f x y h k).0 u in omega arith)

-- where the one does not lie below the other, the other is at most the one; and lies below it where the two are not equal either
module _ (f : Format) (x y : Float) (h : Number f x) (k : Number f y) (n : T (not (lt x y))) where
  at_most : place f y ≤ place f x
  at_most = not_below (λ l. T_not (lt x y) n ((lt_place f x y h k).1 l))

  pub le_of_not_lt : T (le y x)
  le_of_not_lt = (le_place f y x k h).1 at_most

  pub lt_of_neither : T (not (eq x y)) → T (lt y x)
  lt_of_neither e = (lt_place f y x k h).1 (go (λ q. T_not (eq x y) e ((eq_place f x y h k).1 q)))
    where
      go : (place f x ≡ place f y → ⊥) → place f y < place f x
      go g = omega (arith, at_most)

-- ---- a rounded fraction against a number that is not minus

finite_below : (z y : Float) → is_minus z ≡ false → T (is_finite y) → T (le z y) → T (is_finite z)
unfolding le lt eq
finite_below nan y s k t = absurd t
finite_below (inf true) y s k t = absurd (true≢false s)
finite_below (inf false) nan s k t = absurd k
finite_below (inf false) (inf u) s k t = absurd k
finite_below (inf false) (fin u n d) s k t = absurd t
finite_below (fin u m e) y s k t = tt

module _ (f : Format) (a c : ℕ) (y : Float) (k : Number f y) (plus : is_minus y ≡ false) where
  compares : rounded f a c < overflow f → T (le (round f false a c) y) ↔ (rounded f a c ≤ steps f y)
  compares r =
      let v = round_steps f false a c r in
      rw v.0 at (plus_le f (round f false a c) y (round-fits f false a c, v.2) k v.1 plus)

  pub round_le : T (le (round f false a c) y) ↔ (rounded f a c ≤ steps f y)
  round_le = (
    (λ t. (compares (round_finite f false a c (finite_below (round f false a c) y (round_minus f false a c) k.1 t))).0 t),
    λ l. (compares (lt_of_le_of_lt l (steps_lt f y k.0))).1 l,
  )

-- rounding is monotone, below overflow
pub rounded_mono : (f : Format) (a c b d : ℕ) → 0 < c → 0 < d → a * d ≤ b * c → rounded f b d < overflow f → rounded f a c ≤ rounded f b d
rounded_mono f a c b d C D l o =
    let v = round_steps f false b d o in
    rw v.0 at ((round_le f a c (round f false b d) (round-fits f false b d, v.2) v.1).0 (round_mono f a c b d C D l))
