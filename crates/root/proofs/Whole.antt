-- Laws of the whole root. A larger number has a larger square, so a number has one whole root, and digit by digit or with digits to spare it is the same one.
-- The last laws are on the root that is worked by turns, that of v * 2 ^ 54: it has 54 digits, they are not all ones, and the last is 0 where the root is exact.
use mathlib.Core.Path.{◌≡◌, refl, ap, ◌∙◌}
use mathlib.Core.Bool.{Bool, true, false, cond}
use mathlib.Core.Logic.{⊎_elim}
use Prim.Native.Nat.{ℕ, zero, suc, ◌+◌, ◌-◌, ◌*◌, ◌/◌, ◌%◌, ◌^◌, ◌≤◌, ◌<◌}
use native.Mathlib.Nat.{le_antisymm, lt_of_not-le, not-le_of_lt, mul-le-mul, mul-le-mul_right, lt_of_mul-lt-mul_right, le_of_mul-le-mul_right, mul-pos, div-add-mod', mod-lt, mul_comm, two-mul, eq-zero-or-pos}
use native.Mathlib.Omega.{arith}
use lib.Dec.{leb}
use lib.Pow.{pow_pos, pow-add}
use borrow.Author.Tests.{leb-true, leb-false}
use Rattle.root.specs.Whole.{IsWholeRoot, whole_root}

pub square_le : {a b : ℕ} → a ≤ b → a * a ≤ b * b
square_le h = mul-le-mul h h

pub square_lt : {a b : ℕ} → a < b → a * a < b * b
square_lt {a} {b} h = omega (arith, square_le h)

pub lt_of_square_lt : {a b : ℕ} → a * a < b * b → a < b
lt_of_square_lt {a} {b} h = lt_of_not-le (λ (k : b ≤ a). not-le_of_lt h (square_le k))

at_most : {n r s : ℕ} → IsWholeRoot n r → IsWholeRoot n s → r ≤ s
at_most {n} {r} {s} a b = let h : r < s + 1 = lt_of_square_lt (omega arith) in omega arith

pub whole_root_unique : {n r s : ℕ} → IsWholeRoot n r → IsWholeRoot n s → r ≡ s
whole_root_unique a b = le_antisymm (at_most a b) (at_most b a)

-- ---- Digit by digit

-- what the root of n / 4 leaves open is whether the next digit is 1
one_more_digit : {n s : ℕ} (b : Bool) → leb ((2 * s + 1) * (2 * s + 1)) n ≡ b → IsWholeRoot (n / 4) s → IsWholeRoot n (cond b (2 * s + 1) (2 * s))
one_more_digit true e a = record { low = leb-true _ _ e; high = omega arith }
one_more_digit false e a = record { low = omega arith; high = leb-false _ _ e }

pub whole_root_is : (k n : ℕ) → n < 2 ^ (2 * k) → IsWholeRoot n (whole_root k n)
unfolding whole_root
whole_root_is zero n h = record { low = omega arith; high = h }
whole_root_is (suc k) n h =
    let e : 2 * suc k ≡ 2 + 2 * k = omega arith in
    one_more_digit _ refl (whole_root_is k (n / 4) (omega (arith, rw (e, pow-add) at h)))

-- ---- With digits to spare

-- both bounds, divided by p * p
without_factor : {n p r : ℕ} → zero < p → IsWholeRoot (n * (p * p)) r → IsWholeRoot n (r / p)
without_factor {n} {p} {r} h a =
    let split : r / p * p + r % p ≡ r = div-add-mod' r p in
    let small : r % p < p = mod-lt r h in
    let under : r / p * p * (r / p * p) ≤ r * r = square_le (omega arith) in
    let over : (r + 1) * (r + 1) ≤ (r / p + 1) * p * ((r / p + 1) * p) = square_le (omega arith) in
    record { low = le_of_mul-le-mul_right {k = p * p} (omega arith) (mul-pos h h); high = lt_of_mul-lt-mul_right (p * p) (omega arith) }

pub pow_next : (h : ℕ) → 2 ^ (h + 1) ≡ 2 * 2 ^ h
pow_next h = pow-add 2 h 1 ∙ mul_comm (2 ^ h) 2

pub pow_double : (h : ℕ) → 2 ^ (2 * h) ≡ 2 ^ h * 2 ^ h
pow_double h = ap (λ (k : ℕ). 2 ^ k) (two-mul h) ∙ pow-add 2 h h

-- the root of n moved up by 2 * h digits has h digits to spare: cut off, they leave the root of n
pub scaled : (n h r s : ℕ) → IsWholeRoot n s → IsWholeRoot (n * 2 ^ (2 * h)) r → r / 2 ^ h ≡ s
scaled n h r s a b = whole_root_unique (without_factor (pow_pos h) (rw pow_double at b)) a

-- ---- The root of v * 2 ^ 54

-- (c - 1) * (c + 1) is one below the square of c
below_square : (v c : ℕ) → v < c → v * (c + 1) < c * c
below_square v c h = omega (arith, mul-le-mul_right c h)

pub never_all_ones : (v r : ℕ) → v + 2 ≤ 2 ^ 54 → IsWholeRoot (v * 2 ^ 54) r → r + 2 ≤ 2 ^ 54
never_all_ones v r h a =
    let k : r < 2 ^ 54 - 1 = lt_of_square_lt (omega (arith, below_square v (2 ^ 54 - 1) (omega arith))) in
    omega arith

pub leading : (v r : ℕ) → 2 ^ 52 ≤ v → IsWholeRoot (v * 2 ^ 54) r → 2 ^ 53 ≤ r
leading v r h a = let k : 2 ^ 53 < r + 1 = lt_of_square_lt (omega arith) in omega arith

-- an odd square is odd
pub no_odd_square : (v r : ℕ) → r * r ≡ v * 2 ^ 54 → r % 2 ≡ 0
no_odd_square v r e =
    ⊎_elim
    (λ (even : r % 2 ≡ 0). even)
    (λ (odd : 0 < r % 2). let f : r ≡ 2 * (r / 2) + 1 = omega arith in omega (arith, ap (λ (n : ℕ). n * r) f))
    (eq-zero-or-pos (r % 2))
