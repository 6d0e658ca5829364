-- Laws of `value` and `value_at`: what the last byte adds, how large the value of k bytes is, and that these k bytes alone make it.
use mathlib.Core.Path.{◌≡◌, refl, sym, ap, ◌∙◌}
use mathlib.Core.Bool.{Bool, cond}
use mathlib.Core.List.{List, [], ◌∷◌}
use Prim.Native.Nat.{ℕ, zero, suc, ◌+◌, ◌*◌, ◌^◌, ◌≤◌, ◌<◌}
use native.Mathlib.Nat.{one-le-pow, pow-suc, pow-succ', mul_assoc}
use native.Mathlib.Omega.{arith}
use lib.ListN.{length, take, drop, get_or}
use borrow.Author.Tests.{le-leb, lt-leb}
use Rattle.std.specs.Prelude.{Option, Some, None}
use Rattle.std.specs.Option.{MatchOption, unwrap_or}
use Rattle.std.specs.Int.{byte_worth, sum_through}
use Rattle.words.specs.Words.{value, value_at}

-- what the last byte adds
value_last : (k : ℕ) (l : List ℕ) → value (suc k) l ≡ value k l + get_or l k 0 * 256 ^ k
unfolding value
value_last zero [] = refl
value_last zero (b ∷ l) = omega arith
value_last (suc k) [] = omega arith
value_last (suc k) (b ∷ l) =
    let weight : get_or l k 0 * 256 ^ suc k ≡ get_or l k 0 * 256 ^ k * 256 = rw pow-suc (sym (mul_assoc (get_or l k 0) (256 ^ k) 256)) in
    omega (arith, value_last k l, weight)

-- so it is the sum of its bytes, each at its weight
weighed : (k : ℕ) (l : List ℕ) → sum_through (λ i. byte_worth i (get_or l i 0)) k ≡ value (suc k) l
unfolding value
weighed zero l = omega (arith, value_last 0 l)
weighed (suc k) l = ap (λ (n : ℕ). n + get_or l (suc k) 0 * 256 ^ suc k) (weighed k l) ∙ sym (value_last (suc k) l)

-- k bytes have a value below 256 ^ k
pub value_bound : (k : ℕ) (l : List ℕ) → ((i : ℕ) → get_or l i 0 < 256) → value k l < 256 ^ k
unfolding value
value_bound zero l p = omega arith
value_bound (suc k) [] p = one-le-pow (suc k) 256 (omega arith)
value_bound (suc k) (b ∷ l) p = omega (arith, p 0, value_bound k l (λ i. p (suc i)), pow-succ' 256 k)

-- only the first k bytes count
pub value_take : (k : ℕ) (l : List ℕ) → value k (take k l) ≡ value k l
unfolding value
value_take zero l = refl
value_take (suc k) [] = refl
value_take (suc k) (b ∷ l) = ap (λ (n : ℕ). b + 256 * n) (value_take k l)

-- in range `value_at` is the value there, and past it 0
pub value_at_inside : (k : ℕ) (l : List ℕ) (at : ℕ) → at + k ≤ length l → value_at k l at ≡ value k (drop at l)
unfolding value_at
value_at_inside k l at h = ap (λ (t : Bool). cond t (value k (drop at l)) 0) (le-leb (at + k) (length l) h)

pub value_at_outside : (k : ℕ) (l : List ℕ) (at : ℕ) → length l < at + k → value_at k l at ≡ 0
unfolding value_at
value_at_outside k l at h = ap (λ (t : Bool). cond t (value k (drop at l)) 0) (lt-leb (at + k) (length l) h)

-- the same k bytes have the same value, wherever they stand
pub value_at_same : (k : ℕ) (l : List ℕ) (at : ℕ) (l' : List ℕ) (at' : ℕ) → at + k ≤ length l → at' + k ≤ length l' → take k (drop at l) ≡ take k (drop at' l') → value_at k l at ≡ value_at k l' at'
value_at_same k l at l' at' h h' e =
    value_at_inside k l at h
    ∙ sym (value_take k (drop at l))
    ∙ ap (value k) e
    ∙ value_take k (drop at' l')
    ∙ sym (value_at_inside k l' at' h')

-- so is a number read from a part of the list, and 0 where there is none
pub part_read : (k : ℕ) (l : List ℕ) (at : ℕ) (part : Option (List ℕ)) (zeros : List ℕ) → MatchOption part (length l < at + suc k) (λ bytes. (at + suc k ≤ length l) × (bytes ≡ take (suc k) (drop at l)))
    → sum_through (λ i. byte_worth i (get_or zeros i 0)) k ≡ 0 → sum_through (λ i. byte_worth i (get_or (unwrap_or part zeros) i 0)) k ≡ value_at (suc k) l at
part_read k l at None zeros outside none = none ∙ sym (value_at_outside (suc k) l at outside)
part_read k l at (Some bytes) zeros inside none = weighed k bytes ∙ ap (value (suc k)) inside.1 ∙ value_take (suc k) (drop at l) ∙ sym (value_at_inside (suc k) l at inside.0)
