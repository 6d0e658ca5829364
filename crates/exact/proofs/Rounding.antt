-- Rounding, over any format, on whole numbers: the steps that a fraction rounds to lie within half a unit in the last place of it, no
-- number of the format lies nearer, a number of the format rounds to itself, and the order is kept.
-- The one argument: rounded steps are the nearest multiple of a power of two; a number of the format that is no such multiple is below
-- one that is, which lies between it and the fraction.
use mathlib.Core.Path.{◌≡◌, refl, sym, ap, ◌∙◌, subst}
use mathlib.Core.Logic.{◌⊎◌, inl, inr, ⊎_elim}
use mathlib.Core.Bool.{Bool, true, false, not, cond}
use Prim.Native.Nat.{ℕ, zero, suc, ◌+◌, ◌-◌, ◌*◌, ◌/◌, ◌%◌, ◌^◌, ◌≤◌, ◌<◌, zero-le, compare, Ordering}
use native.Mathlib.Nat.{le_trans, le_of_eq, le_of_lt, le_antisymm, lt_of_le_of_lt, sub-add_cancel, add-sub_cancel_left, pow-succ', le_of_mul-le-mul_right, mul_assoc, mul_comm, mul-le-mul_right, mul-pos, mod-lt, div-add-mod', le-div_iff_mul-le, one-mul, le-add_left, le-add_right, eq-zero-or-pos}
use native.Mathlib.Omega.{arith}
use lib.Dec.{T, is_le, compare_is_eq, ltb, leb→le, nleb→lt, eqb→eq, ltb→lt, nltb→le}
use lib.Pow.{pow-add, pow_pos, pow_mono, shl_lt}
use lib.Ieee.{Float, inf, Format, prec, low, size, nearest, odd, units, round, fits}
use lib.Ieee.Digits.{size-lt, size-le, size_reaches}
use lib.Ieee.Fits.{two, two-le_pos, round_is, round-fits}
use lib.Ieee.Exact.{HasValue, units_val}
use lib.Ieee.Nearest.{closest}
use lib.Ieee.Order.{drop, kept}
use lib.Ieee.Scale.{grid, overflow}
use Rattle.exact.specs.Numbers.{is_finite, Number, magnitude, is_minus, steps, distance}
use Rattle.exact.proofs.Basics.{not_below}
use Rattle.exact.proofs.Steps.{Moved, moved, steps_of_value, steps_lt, same_number}

-- ---- the nearest whole number to a fraction n / u

module _ (q r u : ℕ) (r-lt : r < u) where
  down_half : r * 2 ≤ u → 2 * distance (q * u) (q * u + r) ≤ u
  down_half h = omega arith

  up_half : u ≤ r * 2 → 2 * distance (suc q * u) (q * u + r) ≤ u
  up_half h = omega arith

  tie_half : (b : ℕ) → b < 2 → r * 2 ≡ u → 2 * distance ((q + b) * u) (q * u + r) ≤ u
  tie_half b h e = go (split b h)
    where
      split : (b : ℕ) → b < 2 → (b ≡ 0) ⊎ (b ≡ 1)
      split zero l = inl refl
      split (suc b) l = inr (omega arith)

      go : (b ≡ 0) ⊎ (b ≡ 1) → 2 * distance ((q + b) * u) (q * u + r) ≤ u
      go (inl z) = rw z (omega arith)
      go (inr o) = rw o (omega arith)

  half_of : (o : Ordering) → (T (is_le o) → r * 2 ≤ u) → (T (not (is_le o)) → u < r * 2) → (T (compare_is_eq o) → r * 2 ≡ u) → 2 * distance (nearest q o * u) (q * u + r) ≤ u
  half_of Ordering.lt a b e = down_half (a tt)
  half_of Ordering.eq a b e = tie_half (q % 2) (mod-lt q (pow_pos 1)) (e tt)
  half_of Ordering.gt a b e = up_half (le_trans (omega arith) (b tt))

closest_half : (n u : ℕ) → 0 < u → 2 * distance (closest n u * u) n ≤ u
closest_half n u h =
    subst (λ (m : ℕ). 2 * distance (closest n u * u) m ≤ u) (div-add-mod' n u)
    (half_of (n / u) (n % u) u (mod-lt n h) (compare (n % u * 2) u) (leb→le (n % u * 2) u) (nleb→lt (n % u * 2) u) (eqb→eq (n % u * 2) u))

-- a whole number other than k is a whole u away
other : (k z u n : ℕ) → (z ≡ k) ⊎ ((suc z * u ≤ k * u) ⊎ (suc k * u ≤ z * u)) → 2 * distance (k * u) n ≤ u → distance (k * u) n ≤ distance (z * u) n
other k z u n (inl e) h = rw e (le_of_eq refl)
other k z u n (inr (inl l)) h = omega arith
other k z u n (inr (inr l)) h = omega arith

sides : (k z u : ℕ) → (z ≡ k) ⊎ ((suc z * u ≤ k * u) ⊎ (suc k * u ≤ z * u))
sides k z u = go (ltb z k) (ltb k z) (ltb→lt z k) (ltb→lt k z) (nltb→le z k) (nltb→le k z)
  where
    go : (a b : Bool) → (T a → z < k) → (T b → k < z) → (T (not a) → k ≤ z) → (T (not b) → z ≤ k) → (z ≡ k) ⊎ ((suc z * u ≤ k * u) ⊎ (suc k * u ≤ z * u))
    go true b f g f' g' = inr (inl (mul-le-mul_right u (f tt)))
    go false true f g f' g' = inr (inr (mul-le-mul_right u (g tt)))
    go false false f g f' g' = inl (le_antisymm (g' tt) (f' tt))

closest_best : (n u z : ℕ) → 0 < u → distance (closest n u * u) n ≤ distance (z * u) n
closest_best n u z h = other (closest n u) z u n (sides (closest n u) z u) (closest_half n u h)

regroup : (x c u : ℕ) → x * (c * u) ≡ x * u * c
regroup x c u = ap (λ (y : ℕ). x * y) (mul_comm c u) ∙ sym (mul_assoc x u c)

-- ---- what a / c rounds to, in steps, were there no largest number; and the unit in its last place, in steps

unfoldable pub rounded : Format → ℕ → ℕ → ℕ
rounded f a c = grid f a c

unfoldable pub unit : Format → ℕ → ℕ → ℕ
unit f a c = 2 ^ drop (prec f) (a * 2 ^ low f) c

-- half a unit in the last place; c on both sides, so that nothing is divided
pub half_unit : (f : Format) (a c : ℕ) → 0 < c → 2 * distance (rounded f a c * c) (a * 2 ^ low f) ≤ unit f a c * c
unfolding rounded unit
half_unit f a c h =
    let n = a * 2 ^ low f in
    let k = drop (prec f) n c in
    subst (λ (z : ℕ). 2 * distance z n ≤ 2 ^ k * c) (regroup (kept (prec f) n c) c (2 ^ k)) (le_trans (closest_half n (c * 2 ^ k) (mul-pos h (pow_pos k))) (le_of_eq (mul_comm c (2 ^ k))))

-- what is rounded is a whole number of units
pub in_units : (f : Format) (a c : ℕ) → (k : ℕ) × (rounded f a c ≡ k * unit f a c)
unfolding rounded unit
in_units f a c = (kept (prec f) (a * 2 ^ low f) c, refl)

-- w has d binary digits
digits : (w d : ℕ) → 2 ^ d ≤ 2 * w → w < 2 ^ d → size w ≡ d
digits w d lo hi = le_antisymm (size-le w d hi) (not_below (λ g. over w (2 ^ size w) (2 ^ d) (size-lt w) lo (le_trans (le_of_eq (sym (pow-succ' 2 (size w)))) (pow_mono g))))
  where
    over : (a b c : ℕ) → a < b → c ≤ 2 * a → 2 * b ≤ c → ⊥
    over a b c h k l = omega arith

-- a fraction whose whole part, in steps, has j digits more than the format keeps has the unit 2 ^ j
pub unit_is : (f : Format) (a c j : ℕ) → 2 ^ (prec f + j) ≤ 2 * (a * 2 ^ low f / c) → a * 2 ^ low f / c < 2 ^ (prec f + j) → unit f a c ≡ 2 ^ j
unfolding unit
unit_is f a c j lo hi = ap (λ (z : ℕ). 2 ^ (z - prec f)) (digits (a * 2 ^ low f / c) (prec f + j) lo hi) ∙ ap (λ (z : ℕ). 2 ^ z) (add-sub_cancel_left (prec f) j)

-- ---- nothing is nearer than the rounded value

-- the two cases share a/c, in steps n / c, of which k digits are dropped
module _ (f : Format) (n c : ℕ) (h : 0 < c) where
  k : ℕ
  k = drop (prec f) n c

  off : ℕ → ℕ
  off z = distance (z * c) n

  multiple : (z : ℕ) → off (kept (prec f) n c * 2 ^ k) ≤ off (z * 2 ^ k)
  unfolding k off
  multiple z =
      subst (λ (y : ℕ). distance y n ≤ off (z * 2 ^ k)) (regroup (kept (prec f) n c) c (2 ^ k))
      (subst (λ (y : ℕ). distance (kept (prec f) n c * (c * 2 ^ k)) n ≤ distance y n) (regroup z c (2 ^ k)) (closest_best n (c * 2 ^ k) z (mul-pos h (pow_pos k))))

  -- 2 ^ (prec - 1) units are no more than the fraction, where digits are dropped
  reached : 0 < k → 2 ^ (prec f - 1) * 2 ^ k * c ≤ n
  unfolding k
  reached d =
      subst (λ (z : ℕ). z * c ≤ n) (pow-add 2 (prec f - 1) k)
      ((le-div_iff_mul-le h).0 (size_reaches (n / c) (prec f - 1 + k) (in_use (size (n / c)) (prec f) (two-le_pos (prec f) (two f)) d)))
    where
      in_use : (z p : ℕ) → 0 < p → 0 < z - p → p - 1 + (z - p) < z
      in_use z p P d = omega arith

  below : (q j : ℕ) → q < 2 ^ prec f → j < k → off (kept (prec f) n c * 2 ^ k) ≤ off (q * 2 ^ j)
  unfolding off
  below q j l m =
      let low-enough : q * 2 ^ j ≤ 2 ^ (prec f - 1) * 2 ^ k = le_trans (le_of_lt (shl_lt (prec f) j l)) (le_trans (pow_mono (room (prec f) j k (two-le_pos (prec f) (two f)) m)) (le_of_eq (pow-add 2 (prec f - 1) k))) in
      le_trans (multiple (2 ^ (prec f - 1))) (farther (q * 2 ^ j * c) (2 ^ (prec f - 1) * 2 ^ k * c) (mul-le-mul_right c low-enough) (reached (lt_of_le_of_lt zero-le m)))
    where
      room : (p j k : ℕ) → 0 < p → j < k → p + j ≤ p - 1 + k
      room p j k P m = omega arith

      farther : (y z : ℕ) → y ≤ z → z ≤ n → distance z n ≤ distance y n
      farther y z a b = omega arith

  best : (q j : ℕ) → q < 2 ^ prec f → off (kept (prec f) n c * 2 ^ k) ≤ off (q * 2 ^ j)
  best q j l = go (ltb j k) (ltb→lt j k) (nltb→le j k)
    where
      lifted : k ≤ j → q * 2 ^ (j - k) * 2 ^ k ≡ q * 2 ^ j
      lifted d = mul_assoc q (2 ^ (j - k)) (2 ^ k) ∙ ap (λ (z : ℕ). q * z) (sym (pow-add 2 (j - k) k) ∙ ap (λ (z : ℕ). 2 ^ z) (sub-add_cancel d))

      go : (t : Bool) → (T t → j < k) → (T (not t) → k ≤ j) → off (kept (prec f) n c * 2 ^ k) ≤ off (q * 2 ^ j)
      go true a b = below q j l (a tt)
      go false a b = subst (λ (z : ℕ). off (kept (prec f) n c * 2 ^ k) ≤ off z) (lifted (b tt)) (multiple (q * 2 ^ (j - k)))

-- so 2 ^ (prec - 1) units are no more than the fraction, or the unit is one step
pub units_most : (f : Format) (a c : ℕ) → 0 < c → 2 ^ (prec f - 1) * (unit f a c * c) ≤ a * 2 ^ low f + 2 ^ (prec f - 1) * c
unfolding unit k
units_most f a c h =
    let p = 2 ^ (prec f - 1) in
    let n = a * 2 ^ low f in
    ⊎_elim
    (λ (z : k f n c h ≡ 0). rw z (le_trans (le_of_eq (ap (λ (m : ℕ). p * m) (one-mul c))) (le-add_left (p * c) n)))
    (λ (d : 0 < k f n c h). le_trans (le_of_eq (sym (mul_assoc p (2 ^ k f n c h) c))) (le_trans (reached f n c h d) (le-add_right n (p * c))))
    (eq-zero-or-pos (k f n c h))

-- ---- at a whole number of steps that has no more digits than the format keeps: nothing is nearer, and the order is kept

module _ (f : Format) (a c n : ℕ) (h : 0 < c) (m : Moved f n) where
  over : (g z w : ℕ) → w ≤ z → distance g w ≤ distance z w → g ≤ z
  over g z w l d = omega arith

  under : (g z w : ℕ) → z ≤ w → distance g w ≤ distance z w → z ≤ g
  under g z w l d = omega arith

  few_nearest : distance (rounded f a c * c) (a * 2 ^ low f) ≤ distance (n * c) (a * 2 ^ low f)
  unfolding rounded k off
  few_nearest = subst (λ (z : ℕ). distance (rounded f a c * c) (a * 2 ^ low f) ≤ distance (z * c) (a * 2 ^ low f)) (sym m.is) (best f (a * 2 ^ low f) c h m.significand m.places m.few)

  pub few_le : a * 2 ^ low f ≤ n * c → rounded f a c ≤ n
  few_le l = le_of_mul-le-mul_right (over (rounded f a c * c) (n * c) (a * 2 ^ low f) l few_nearest) h

  few_ge : n * c ≤ a * 2 ^ low f → n ≤ rounded f a c
  few_ge l = le_of_mul-le-mul_right (under (rounded f a c * c) (n * c) (a * 2 ^ low f) l few_nearest) h

  pub few_exact : a * 2 ^ low f ≡ n * c → rounded f a c ≡ n
  few_exact e = le_antisymm (few_le (le_of_eq e)) (few_ge (le_of_eq (sym e)))

-- ---- so at a number of the format, which is not changed itself

module _ (f : Format) (a c : ℕ) (y : Float) (h : 0 < c) (w : T (fits f y)) where
  pub nothing_nearer : distance (rounded f a c * c) (a * 2 ^ low f) ≤ distance (steps f y * c) (a * 2 ^ low f)
  nothing_nearer = few_nearest f a c (steps f y) h (moved f y w)

  pub rounded_le : a * 2 ^ low f ≤ steps f y * c → rounded f a c ≤ steps f y
  rounded_le l = few_le f a c (steps f y) h (moved f y w) l

  pub rounded_ge : steps f y * c ≤ a * 2 ^ low f → steps f y ≤ rounded f a c
  rounded_ge l = few_ge f a c (steps f y) h (moved f y w) l

  pub rounded_exact : a * 2 ^ low f ≡ steps f y * c → rounded f a c ≡ steps f y
  rounded_exact e = few_exact f a c (steps f y) h (moved f y w) e

-- ---- what `round` answers

round_units : (f : Format) (s : Bool) (a c : ℕ) → rounded f a c < overflow f → HasValue (round f s a c) s (rounded f a c) (2 ^ low f)
unfolding rounded
round_units f s a c h =
    subst (λ (z : Float). HasValue z s (grid f a c) (2 ^ low f)) (sym (round_is f s a c))
    (units_val f s (kept (prec f) (a * 2 ^ low f) c) (drop (prec f) (a * 2 ^ low f) c) h)

-- below overflow: the rounded steps, with the sign given
pub round_steps : (f : Format) (s : Bool) (a c : ℕ) → rounded f a c < overflow f → (steps f (round f s a c) ≡ rounded f a c) × (is_minus (round f s a c) ≡ s) × T (is_finite (round f s a c))
round_steps f s a c h = steps_of_value f (round f s a c) s (rounded f a c) (round_units f s a c h)

-- from overflow on: an infinity; so a finite result lies below
pub round_finite : (f : Format) (s : Bool) (a c : ℕ) → T (is_finite (round f s a c)) → rounded f a c < overflow f
unfolding rounded units
round_finite f s a c t =
    let q = kept (prec f) (a * 2 ^ low f) c in
    let d = drop (prec f) (a * 2 ^ low f) c in
    go (ltb (q * 2 ^ d) (overflow f)) (ltb→lt (q * 2 ^ d) (overflow f)) (subst (λ (z : Float). T (is_finite z)) (round_is f s a c) t)
  where
    go : (b : Bool) → (T b → rounded f a c < overflow f) → T (is_finite (cond b (odd (suc (prec f)) s (kept (prec f) (a * 2 ^ low f) c) (drop (prec f) (a * 2 ^ low f) c) (low f)) (inf s))) → rounded f a c < overflow f
    go true l u = l tt
    go false l u = absurd u

-- rounding of a representable value
pub round_same_number : (f : Format) (x : Float) → Number f x → round f (is_minus x) (steps f x) (2 ^ low f) ≡ x
round_same_number f x w =
    let e = rounded_exact f (steps f x) (2 ^ low f) x (pow_pos (low f)) w.0 refl in
    let r = round_steps f (is_minus x) (steps f x) (2 ^ low f) (subst (λ (z : ℕ). z < overflow f) (sym e) (steps_lt f x w.0)) in
    same_number f (round f (is_minus x) (steps f x) (2 ^ low f)) x (round-fits f (is_minus x) (steps f x) (2 ^ low f), r.2) w r.1 (r.0 ∙ e)

-- ---- the sign of a rounded value is the sign given, and its size does not depend on it

abbrev Signed : Bool → Float → Float → Type 0
Signed s x y = (is_minus x ≡ s) × (magnitude x ≡ y)

odd_signed : (d : ℕ) (s : Bool) (q k l : ℕ) → Signed s (odd d s q k l) (odd d false q k l)
unfolding odd magnitude
odd_signed d s zero k l = (refl, refl)
odd_signed d s (suc q) k l = (refl, refl)

picked : (b s : Bool) (x y : Float) → Signed s x y → Signed s (cond b x (inf s)) (cond b y (inf false))
unfolding magnitude
picked true s x y h = h
picked false s x y h = (refl, refl)

units_signed : (f : Format) (s : Bool) (q k : ℕ) → Signed s (units f s q k) (units f false q k)
unfolding units
units_signed f s q k =
    picked (ltb (q * 2 ^ k) (overflow f)) s (odd (suc (prec f)) s q k (low f)) (odd (suc (prec f)) false q k (low f)) (odd_signed (suc (prec f)) s q k (low f))

round_signed : (f : Format) (s : Bool) (a c : ℕ) → Signed s (round f s a c) (round f false a c)
round_signed f s a c = rw (round_is f s a c, round_is f false a c) (units_signed f s (kept (prec f) (a * 2 ^ low f) c) (drop (prec f) (a * 2 ^ low f) c))

pub round_minus : (f : Format) (s : Bool) (a c : ℕ) → is_minus (round f s a c) ≡ s
round_minus f s a c = (round_signed f s a c).0

pub round_magnitude : (f : Format) (s : Bool) (a c : ℕ) → magnitude (round f s a c) ≡ round f false a c
round_magnitude f s a c = (round_signed f s a c).1
