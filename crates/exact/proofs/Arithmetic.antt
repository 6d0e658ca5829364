-- Sums, differences, products and quotients of finite numbers in signs and steps: each is one rounding of the exact result over whole numbers.
use mathlib.Core.Path.{◌≡◌, refl, sym, ap, ap₂, ◌∙◌, subst}
use mathlib.Core.Bool.{Bool, true, false, not, cond, ◌&&◌, beq}
use Prim.Native.Nat.{ℕ, zero, suc, ◌+◌, ◌-◌, ◌*◌, ◌^◌, ◌≤◌, ◌<◌}
use native.Mathlib.Nat.{mul_assoc, mul_right_comm, mul-mul-mul_comm, mul-pos, eq_of_mul-eq-mul_right, lt_irrefl}
use native.Mathlib.Omega.{arith}
use borrow.Author.Tests.{le-ltb}
use lib.Dec.{T, ltb, eqb, ltb→lt, nltb→le, eqb-suc-zero}
use lib.Pow.{pow_pos}
use lib.Ieee.{Float, nan, inf, fin, Format, low, up, down, unlike, round, neg, sum, add, sub, mul, div}
use lib.Ieee.Fits.{neg-fits}
use lib.Ieee.Positive.{first_pos}
use lib.Ieee.Scale.{round_same}
use Rattle.exact.specs.Numbers.{Number, is_minus, magnitude, steps, distance, gap}
use Rattle.exact.proofs.Steps.{in_steps_lem}
use Rattle.exact.proofs.Rounding.{round_magnitude}
use Rattle.exact.proofs.Fractions.{scaled_ltb, sums, differences, left, right, denominators_pos}

-- ---- the sum

-- of one sign: one rounding of a + b
pub sum_alike : (f : Format) (s : Bool) (a b c : ℕ) → sum f s a s b c ≡ round f s (a + b) c
unfolding sum
sum_alike f true a b c = refl
sum_alike f false a b c = refl

-- of two signs, the first not the smaller: one rounding of a - b, whose sign is the first's unless it is nothing
pub sum_unlike : (f : Format) (s : Bool) (a b c : ℕ) → b ≤ a → sum f s a (not s) b c ≡ round f (s && ltb b a) (a - b) c
unfolding sum
sum_unlike f true a b c h = ap (λ (u : Bool). cond u (round f false (b - a) c) (round f (ltb b a) (a - b) c)) (le-ltb a b h)
sum_unlike f false a b c h = ap (λ (u : Bool). cond u (round f true (b - a) c) (round f false (a - b) c)) (le-ltb a b h)

-- equal fractions have equal sums
sum_same : (f : Format) (s t : Bool) (A B C a b c : ℕ) → 0 < C → 0 < c → A * c ≡ a * C → B * c ≡ b * C → sum f s A t B C ≡ sum f s a t b c
unfolding sum
sum_same f s t A B C a b c P p x y =
    ap₂ (λ (u v : Float). cond (beq s t) u v)
    (round_same f s (A + B) C (a + b) c P p (sums c C p P A B a b x y))
    (ap (λ (u : Bool). cond u (round f t (B - A) C) (round f (s && ltb B A) (A - B) C)) (scaled_ltb c C p P A B a b x y)
    ∙ ap₂ (λ (u v : Float). cond (ltb a b) u v)
    (round_same f t (B - A) C (b - a) c P p (differences c C p P B A b a y x))
    (ap (λ (u : Bool). round f (s && u) (A - B) C) (scaled_ltb c C p P B A b a y x) ∙ round_same f (s && ltb b a) (A - B) C (a - b) c P p (differences c C p P A B a b x y)))

pub add_steps : (f : Format) (x y : Float) → Number f x → Number f y → add f x y ≡ sum f (is_minus x) (steps f x) (is_minus y) (steps f y) (2 ^ low f)
unfolding add
add_steps f nan y h k = absurd h.1
add_steps f (inf s) y h k = absurd h.1
add_steps f (fin s m e) nan h k = absurd k.1
add_steps f (fin s m e) (inf t) h k = absurd k.1
add_steps f (fin s m e) (fin t n d) h k =
    sum_same f s t (m * up e * down d) (n * up d * down e) (down e * down d) (steps f (fin s m e)) (steps f (fin t n d)) (2 ^ low f)
    (denominators_pos f s m e t n d h k) (pow_pos (low f)) (left f s m e t n d h k) (right f s m e t n d h k)

-- ---- the difference

pub neg_number : (f : Format) (x : Float) → Number f x → Number f (neg x) × (is_minus (neg x) ≡ not (is_minus x)) × (steps f (neg x) ≡ steps f x)
unfolding neg steps
neg_number f nan h = absurd h.1
neg_number f (inf s) h = absurd h.1
neg_number f (fin s m e) h = ((neg-fits f (fin s m e) h.0, tt), refl, refl)

pub sub_steps : (f : Format) (x y : Float) → Number f x → Number f y → sub f x y ≡ sum f (is_minus x) (steps f x) (not (is_minus y)) (steps f y) (2 ^ low f)
unfolding sub
sub_steps f x y h k =
    let n = neg_number f y k in
    add_steps f x (neg y) h n.0 ∙ ap₂ (λ (t : Bool) (b : ℕ). sum f (is_minus x) (steps f x) t b (2 ^ low f)) n.1 n.2

-- without its sign, the sum of ±a and ±b is one rounding of what they come to
sum_magnitude : (f : Format) (s t : Bool) (a b c : ℕ) → magnitude (sum f s a t b c) ≡ round f false (cond (beq s t) (a + b) (distance a b)) c
unfolding sum
sum_magnitude f s t a b c = go (beq s t)
  where
    apart : (u : Bool) → (T u → a < b) → (T (not u) → b ≤ a) → magnitude (cond u (round f t (b - a) c) (round f (s && ltb b a) (a - b) c)) ≡ round f false (distance a b) c
    apart true l g = let e : b - a ≡ distance a b = far (l tt) in round_magnitude f t (b - a) c ∙ ap (λ (z : ℕ). round f false z c) e
      where
        far : a < b → b - a ≡ distance a b
        far l = omega arith
    apart false l g = let e : a - b ≡ distance a b = far (g tt) in round_magnitude f (s && ltb b a) (a - b) c ∙ ap (λ (z : ℕ). round f false z c) e
      where
        far : b ≤ a → a - b ≡ distance a b
        far l = omega arith

    go : (u : Bool) → magnitude (cond u (round f s (a + b) c) (cond (ltb a b) (round f t (b - a) c) (round f (s && ltb b a) (a - b) c))) ≡ round f false (cond u (a + b) (distance a b)) c
    go true = round_magnitude f s (a + b) c
    go false = apart (ltb a b) (ltb→lt a b) (nltb→le a b)

-- the difference without its sign: the exact gap, rounded
pub sub_magnitude : (f : Format) (x y : Float) → Number f x → Number f y → magnitude (sub f x y) ≡ round f false (gap f x y) (2 ^ low f)
unfolding gap
sub_magnitude f x y h k =
    ap magnitude (sub_steps f x y h k)
    ∙ sum_magnitude f (is_minus x) (not (is_minus y)) (steps f x) (steps f y) (2 ^ low f)
    ∙ ap (λ (z : ℕ). round f false z (2 ^ low f)) (turned (is_minus x) (is_minus y) (distance (steps f x) (steps f y)) (steps f x + steps f y))
  where
    turned : (s t : Bool) (a b : ℕ) → cond (beq s (not t)) b a ≡ cond (beq s t) a b
    turned false false a b = refl
    turned false true a b = refl
    turned true false a b = refl
    turned true true a b = refl

-- ---- the product

pub mul_steps : (f : Format) (x y : Float) → Number f x → Number f y → mul f x y ≡ round f (unlike (is_minus x) (is_minus y)) (steps f x * steps f y) (2 ^ low f * 2 ^ low f)
unfolding mul
mul_steps f nan y h k = absurd h.1
mul_steps f (inf s) y h k = absurd h.1
mul_steps f (fin s m e) nan h k = absurd k.1
mul_steps f (fin s m e) (inf t) h k = absurd k.1
mul_steps f (fin s m e) (fin t n d) h k =
    let a = steps f (fin s m e) in
    let b = steps f (fin t n d) in
    let L = 2 ^ low f in
    round_same f (unlike s t) (m * up e * (n * up d)) (down e * down d) (a * b) (L * L) (denominators_pos f s m e t n d h k) (mul-pos (pow_pos (low f)) (pow_pos (low f)))
    (mul-mul-mul_comm (m * up e) (n * up d) L L ∙ ap₂ (λ (x y : ℕ). x * y) (in_steps_lem f (fin s m e) h).1 (in_steps_lem f (fin t n d) k).1 ∙ mul-mul-mul_comm a (down e) b (down d))

-- ---- the quotient

pub div_steps : (f : Format) (x y : Float) → Number f x → Number f y → 0 < steps f y → div f x y ≡ round f (unlike (is_minus x) (is_minus y)) (steps f x) (steps f y)
unfolding div
div_steps f nan y h k p = absurd h.1
div_steps f (inf s) y h k p = absurd h.1
div_steps f (fin s m e) nan h k p = absurd k.1
div_steps f (fin s m e) (inf t) h k p = absurd k.1
div_steps f (fin s m e) (fin t n d) h k p =
    let a = steps f (fin s m e) in
    let b = steps f (fin t n d) in
    let L = 2 ^ low f in
    let C = down e * down d in
    let A = m * up e * down d in
    let B = n * up d * down e in
    let B-pos : 0 < B = first_pos B L (subst (λ (z : ℕ). 0 < z) (sym (right f s m e t n d h k)) (mul-pos p (denominators_pos f s m e t n d h k))) in
    let crossed : A * b ≡ a * B = eq_of_mul-eq-mul_right L (pow_pos (low f)) (A * b) (a * B)
    (mul_right_comm A b L ∙ ap (λ (z : ℕ). z * b) (left f s m e t n d h k) ∙ mul_right_comm a C b ∙ mul_assoc a b C ∙ ap (λ (z : ℕ). a * z) (sym (right f s m e t n d h k)) ∙ sym (mul_assoc a B L)) in
    not_zero n (first_pos n (up d) (first_pos (n * up d) (down e) B-pos)) (cond (eqb m 0) nan (inf (unlike s t))) (round f (unlike s t) A B)
    ∙ round_same f (unlike s t) A B a b B-pos p crossed
  where
    not_zero : (n : ℕ) → 0 < n → (u v : Float) → cond (eqb n 0) u v ≡ v
    not_zero zero l u v = absurd (lt_irrefl 0 l)
    not_zero (suc n) l u v = ap (λ (b : Bool). cond b u v) (eqb-suc-zero n)
