-- How long a piece of text is: a number's decimal digits are at most as many as were asked for, and at most j where it is below 10 ^ j; hex
-- digits are exactly as many as were asked for.
use mathlib.Core.Path.{◌≡◌, refl, ap, ◌∙◌}
use mathlib.Core.Bool.{Bool, true, false}
use Prim.Native.Nat.{ℕ, zero, suc, ◌+◌, ◌/◌, ◌^◌, max, ◌≤◌, ◌<◌}
use native.Mathlib.Nat.{pow-succ'}
use native.Mathlib.Numerals.{add-one}
use native.Mathlib.Omega.{arith}
use borrow.Author.Tests.{ltb-true, ltb-false}
use lib.Dec.{ltb}
use lib.Ieee.{Float}
use lib.IntN.{ℤ, pos, negsuc}
use lib.ListN.{length, length-append}
use mir.Syntax.{w64}
use mir.Val.{SFits}
use Rattle.exact.specs.Numbers.{word_of}
use Rattle.text.specs.Text.{decimal, hex, count, whole, signed, number}

-- ---- decimal digits

-- a number has one digit, or one more than its tenth has
data Digits (k n : ℕ) : Type 0 where
  single : n < 10 → length (decimal (suc k) n) ≡ 1 → Digits k n
  several : 10 ≤ n → length (decimal (suc k) n) ≡ length (decimal k (n / 10)) + 1 → Digits k n

digits : (k n : ℕ) → Digits k n
unfolding decimal
digits k n = go (ltb n 10) refl
  where
    go : (t : Bool) → ltb n 10 ≡ t → Digits k n
    go true e = single (ltb-true n 10 e) (rw e refl)
    go false e = several (ltb-false n 10 e) (rw e (length-append (decimal k (n / 10)) _))

-- at most as many as were asked for
pub length_decimal : (k n : ℕ) → length (decimal k n) ≤ k
unfolding decimal
length_decimal zero n = omega arith
length_decimal (suc k) n = go (digits k n) (length_decimal k (n / 10))
  where
    go : Digits k n → length (decimal k (n / 10)) ≤ k → length (decimal (suc k) n) ≤ suc k
    go (single h e) fewer = omega arith
    go (several h e) fewer = omega arith

-- of a number below 10 ^ j, for a j above 0, at most j
pub length_under : (k n j : ℕ) → 0 < j → n < 10 ^ j → length (decimal k n) ≤ j
unfolding decimal
length_under zero n j p h = omega arith
length_under (suc k) n zero p h = omega arith
length_under (suc k) n (suc j) p h = go (digits k n) j h (λ q. length_under k (n / 10) j q (omega (arith, pow-succ' 10 j)))
  where
    go : Digits k n → (j : ℕ) → n < 10 ^ suc j → (0 < j → length (decimal k (n / 10)) ≤ j) → length (decimal (suc k) n) ≤ suc j
    go (single l e) j h fewer = omega arith
    go (several l e) zero h fewer = omega arith
    go (several l e) (suc j) h fewer = omega (arith, fewer (omega arith))

-- and no more than the number itself, or one
pub length_self : (k n : ℕ) → length (decimal k n) ≤ max 1 n
unfolding decimal
length_self zero n = omega arith
length_self (suc k) n = go (digits k n) (length_self k (n / 10))
  where
    go : Digits k n → length (decimal k (n / 10)) ≤ max 1 (n / 10) → length (decimal (suc k) n) ≤ max 1 n
    go (single h e) fewer = omega arith
    go (several h e) fewer = omega arith

-- ---- hex digits, numbers, counts, whole numbers and epochs

-- exactly as many as were asked for
length_hex : (k n : ℕ) → length (hex k n) ≡ k
unfolding hex
length_hex zero n = refl
length_hex (suc k) n = length-append (hex k (n / 16)) _ ∙ add-one _ ∙ ap suc (length_hex k (n / 16))

-- with the space in front: a number has 17 bytes, a count at most 11, a whole number at most 21, and an epoch of 64 bits too, sign and all
pub length_number : (x : Float) → length (number x) ≡ 17
length_number x = ap suc (length_hex 16 (word_of x))

pub length_count : (n : ℕ) → length (count n) ≤ 11
length_count n = omega (arith, length_decimal 10 n)

pub length_whole : (n : ℕ) → length (whole n) ≤ 21
length_whole n = omega (arith, length_decimal 20 n)

pub length_signed : (z : ℤ) → SFits w64 z → length (signed z) ≤ 21
length_signed (pos n) f = length_whole n
length_signed (negsuc n) f = omega (arith, length_under 20 (n + 1) 19 (omega arith) (omega (arith, f.sfits)))
