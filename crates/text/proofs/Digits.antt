-- Laws of digits: one that is found in front of those that stand, that to ask for more decimal digits than a number has changes nothing, and
-- that the digits of whole numbers are those that the library prints.
use mathlib.Core.Path.{◌≡◌, refl, sym, ap, ◌∙◌}
use mathlib.Core.Bool.{Bool, true, false, cond}
use mathlib.Core.List.{List, [], ◌∷◌, ◌++◌, append-nil, append_assoc}
use Prim.Native.Nat.{ℕ, zero, suc, ◌+◌, ◌-◌, ◌/◌, ◌%◌, ◌^◌, ◌≤◌, ◌<◌}
use native.Mathlib.Nat.{suc-add, pow-succ'}
use native.Mathlib.Omega.{arith}
use borrow.Author.Tests.{lt-ltb, ltb-true, ltb-false, eq-eqb, ne_eqb}
use lib.Dec.{ltb}
use lib.IntN.{ℤ, pos, negsuc}
use mir.Syntax.{w64}
use mir.Val.{SFits}
use native.Mathlib.Numerals.{add-one}
use Rattle.std.specs.Fmt.{digits, digits_onto}
use Rattle.std.specs.Fmt as library
use lib.ListN.{length, drop, set, length-set}
use lib.Seq.{drop-cons, drop-set-lt, get_or-set_same}
use Rattle.text.specs.Text.{digit, decimal, count, whole, signed}

-- a digit set in front of those that stand
pub digit_before : (digits : List ℕ) (left d : ℕ) → 0 < left → left ≤ length digits → drop (left - 1) (set digits (left - 1) d) ≡ d ∷ drop left digits
digit_before digits left d h k =
    let inside : left - 1 < length digits = omega arith in
    let next : suc (left - 1) ≡ left = omega arith in
    drop-cons (set digits (left - 1) d) (left - 1) 0 (rw (length-set digits (left - 1) d) inside)
    ∙ rw (get_or-set_same digits (left - 1) d 0 inside, next, drop-set-lt left digits (left - 1) d (omega arith))

-- a number of at most j + 1 digits has the same ones where i more are asked for
pub decimal_enough : (j i n : ℕ) → n < 10 ^ suc j → decimal (suc (j + i)) n ≡ decimal (suc j) n
unfolding decimal
decimal_enough zero i n h =
    let single : ltb n 10 ≡ true = lt-ltb n 10 (omega (arith, h)) in
    rw single refl
decimal_enough (suc j) i n h =
    ap (λ (l : List ℕ). cond (ltb n 10) [] l ++ (digit (n % 10) ∷ []))
    (ap (λ (k : ℕ). decimal k (n / 10)) (suc-add j i) ∙ decimal_enough j i (n / 10) (omega (arith, h, pow-succ' 10 (suc j))))

-- so a whole number of at most ten digits is written as a count
pub whole_is_count : (n : ℕ) → n < 10 ^ 10 → whole n ≡ count n
whole_is_count n h = ap (λ (l : List ℕ). 32 ∷ l) (decimal_enough 9 10 n h)

not_none : {n : ℕ} → 0 < n → n ≡ 0 → ⊥
not_none h e = omega arith

-- the library's digits, last one first, are the decimal ones
library_digits : (k n : ℕ) (found : List ℕ) → digits_onto k 10 false n found ≡ decimal k n ++ found
unfolding decimal
library_digits zero n found = refl
library_digits (suc k) n found = go (ltb n 10) refl (library_digits k (n / 10) (digit (n % 10) ∷ found))
  where
    go : (b : Bool) → ltb n 10 ≡ b → digits_onto k 10 false (n / 10) (digit (n % 10) ∷ found) ≡ decimal k (n / 10) ++ (digit (n % 10) ∷ found) → digits_onto (suc k) 10 false n found ≡ decimal (suc k) n ++ found
    go true e fewer =
        let none : n / 10 ≡ 0 = omega (arith, ltb-true n 10 e) in
        rw (e, eq-eqb (n / 10) 0 none)
    go false e fewer =
        let some : 0 < n / 10 = omega (arith, ltb-false n 10 e) in
        rw (e, ne_eqb (n / 10) 0 (λ z. not_none some z)) (fewer ∙ sym (append_assoc (decimal k (n / 10)) (digit (n % 10) ∷ []) found))

library_decimal : (n : ℕ) → n < 10 ^ 20 → library.decimal n ≡ decimal 20 n
unfolding digits
library_decimal n h = library_digits 64 n [] ∙ append-nil (decimal 64 n) ∙ decimal_enough 19 44 n h

pub printed : (n : ℕ) → n < 10 ^ 20 → 32 ∷ library.decimal n ≡ whole n
printed n h = ap (λ (l : List ℕ). 32 ∷ l) (library_decimal n h)

pub counted : (n : ℕ) → n < 10 ^ 10 → 32 ∷ library.decimal n ≡ count n
counted n h = printed n (omega arith) ∙ whole_is_count n h

pub spelt : (z : ℤ) → SFits w64 z → 32 ∷ library.signed_decimal z ≡ signed z
spelt (pos n) f = printed n (omega (arith, f.sfits))
spelt (negsuc n) f = ap (λ (l : List ℕ). 32 ∷ 45 ∷ l) (ap library.decimal (sym (add-one n)) ∙ library_decimal (n + 1) (omega (arith, f.sfits)))
