-- Two finite numbers as fractions over one denominator. What is tested or added of the numerators is the same of the numbers' steps, since
-- each numerator is the steps times one factor (`left`, `right`).
use mathlib.Core.Path.{◌≡◌, refl, sym, ap, ap₂, ◌∙◌, subst}
use mathlib.Core.Bool.{Bool, true, false, ◌&&◌, ◌||◌, beq}
use Prim.Native.Nat.{ℕ, ◌+◌, ◌-◌, ◌*◌, ◌^◌, ◌<◌}
use native.Mathlib.Nat.{mul_assoc, mul_comm, mul_right_comm, zero-mul, add-mul, mul-sub, mul-pos, mul-lt-mul_of_pos_right, lt_of_mul-lt-mul_right, eq_of_mul-eq-mul_right}
use lib.IntN.{ℤ}
use lib.Dec.{ltb, eqb, ltb→lt, lt→ltb, eqb→eq}
use lib.Ieee.{fin, Format, low, up, down, below, level}
use lib.Ieee.Fits.{down_pos, eq→eqb}
use Rattle.exact.specs.Numbers.{Number, steps}
use Rattle.exact.proofs.Basics.{same_test}
use Rattle.exact.proofs.Steps.{in_steps_lem}

sub_mul : (a b c : ℕ) → (a - b) * c ≡ a * c - b * c
sub_mul a b c = mul_comm (a - b) c ∙ mul-sub c a b ∙ ap₂ (λ (x y : ℕ). x - y) (mul_comm c a) (mul_comm c b)

-- ---- tests on two fractions over one denominator, from those on their numerators

module _ (L D : ℕ) (l : 0 < L) (d : 0 < D) where
  up_lt : {X Y a b : ℕ} → X * L ≡ a * D → Y * L ≡ b * D → X < Y → a < b
  up_lt {X} {Y} {a} {b} p q h = lt_of_mul-lt-mul_right D (subst (λ (z : ℕ). z < b * D) p (subst (λ (z : ℕ). X * L < z) q (mul-lt-mul_of_pos_right h l)))

module _ (L D : ℕ) (l : 0 < L) (d : 0 < D) where
  pub scaled_ltb : (X Y a b : ℕ) → X * L ≡ a * D → Y * L ≡ b * D → ltb X Y ≡ ltb a b
  scaled_ltb X Y a b p q =
      same_test (ltb X Y) (ltb a b) (λ t. lt→ltb a b (up_lt L D l d p q (ltb→lt X Y t))) (λ t. lt→ltb X Y (up_lt D L d l (sym p) (sym q) (ltb→lt a b t)))

  scaled_eqb : (X Y a b : ℕ) → X * L ≡ a * D → Y * L ≡ b * D → eqb X Y ≡ eqb a b
  scaled_eqb X Y a b p q =
      same_test (eqb X Y) (eqb a b)
      (λ t. eq→eqb (eq_of_mul-eq-mul_right D d a b (sym p ∙ ap (λ (z : ℕ). z * L) (eqb→eq X Y t) ∙ q)))
      (λ t. eq→eqb (eq_of_mul-eq-mul_right L l X Y (p ∙ ap (λ (z : ℕ). z * D) (eqb→eq a b t) ∙ sym q)))

  nought : 0 * L ≡ 0 * D
  nought = zero-mul L ∙ sym (zero-mul D)

  pub sums : (X Y a b : ℕ) → X * L ≡ a * D → Y * L ≡ b * D → (X + Y) * L ≡ (a + b) * D
  sums X Y a b p q = add-mul X Y L ∙ ap₂ (λ (x y : ℕ). x + y) p q ∙ sym (add-mul a b D)

  pub differences : (X Y a b : ℕ) → X * L ≡ a * D → Y * L ≡ b * D → (X - Y) * L ≡ (a - b) * D
  differences X Y a b p q = sub_mul X Y L ∙ ap₂ (λ (x y : ℕ). x - y) p q ∙ sym (sub_mul a b D)

  pub scaled_below : (s t : Bool) (X Y a b : ℕ) → X * L ≡ a * D → Y * L ≡ b * D → below s X t Y ≡ below s a t b
  scaled_below false false X Y a b p q = scaled_ltb X Y a b p q
  scaled_below false true X Y a b p q = refl
  scaled_below true false X Y a b p q = scaled_ltb 0 (X + Y) 0 (a + b) nought (sums X Y a b p q)
  scaled_below true true X Y a b p q = scaled_ltb Y X b a q p

  pub scaled_level : (s t : Bool) (X Y a b : ℕ) → X * L ≡ a * D → Y * L ≡ b * D → level s X t Y ≡ level s a t b
  scaled_level s t X Y a b p q = ap₂ (λ (u v : Bool). u && (beq s t || v)) (scaled_eqb X Y a b p q) (scaled_eqb X 0 a 0 p nought)

-- ---- two finite numbers as fractions over the product of their denominators

crossed : (n L a e d : ℕ) → n * L ≡ a * e → n * d * L ≡ a * (e * d)
crossed n L a e d p = mul_right_comm n d L ∙ ap (λ (z : ℕ). z * d) p ∙ mul_assoc a e d

module _ (f : Format) (s : Bool) (m : ℕ) (e : ℤ) (t : Bool) (n : ℕ) (d : ℤ) (h : Number f (fin s m e)) (k : Number f (fin t n d)) where
  pub left : m * up e * down d * 2 ^ low f ≡ steps f (fin s m e) * (down e * down d)
  left = crossed (m * up e) (2 ^ low f) (steps f (fin s m e)) (down e) (down d) (in_steps_lem f (fin s m e) h).1

  pub right : n * up d * down e * 2 ^ low f ≡ steps f (fin t n d) * (down e * down d)
  right = crossed (n * up d) (2 ^ low f) (steps f (fin t n d)) (down d) (down e) (in_steps_lem f (fin t n d) k).1 ∙ ap (λ (z : ℕ). steps f (fin t n d) * z) (mul_comm (down d) (down e))

  pub denominators_pos : 0 < down e * down d
  denominators_pos = mul-pos (down_pos e) (down_pos d)
