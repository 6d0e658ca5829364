-- RULES, The root on paper. Definitions only.
use Rattle.std.specs.Prelude.{◌≡◌, cond, ℕ, zero, suc, min, ◌+◌, ◌-◌, ◌*◌, ◌/◌, ◌%◌, ◌^◌, ◌≤◌, ◌<◌, leb, Float, Option, Some, None, Result, Ok, Err}
use Rattle.std.specs.Float.{binary64}
use Rattle.std.specs.Float.Ieee.{of_bits, size, eq}
use Rattle.exact.specs.Numbers.{nought, steps}
use Rattle.root.specs.declared.Sheet.{Sheet}
use Rattle.root.specs.declared.Reason.{Reason}
use Rattle.root.specs.Said as said
use Rattle.root.specs.Root.{root_of}

-- 1: h and v of a number of u steps
unfoldable pub half_of : (u : ℕ) → ℕ
half_of u = (size u + 967) / 2

unfoldable pub whole_of : (u : ℕ) → ℕ
whole_of u = u * 2 ^ 1020 / 2 ^ (2 * half_of u)

-- 2: the radicand on paper (times 2 ^ (2h) it is the `radicand` of Root, which is in steps)
abbrev pub in_pairs : (v : ℕ) → ℕ
in_pairs v = v * 2 ^ 54

-- 3: the first sheet
abbrev pub first_sheet : (v : ℕ) → Sheet
first_sheet v = record { digits = 0; remainder = 0; pairs = v; left = 54 }

-- 4: the next pair, the first of 27; what stands there when it is brought down; the trial; the digit
abbrev pub pair_of : Sheet → ℕ
pair_of s = s.pairs / 2 ^ 52

abbrev pub standing_on : Sheet → ℕ
standing_on s = s.remainder * 4 + pair_of s

abbrev pub trial_of : Sheet → ℕ
trial_of s = s.digits * 4 + 1

abbrev pub digit_for : (trial standing : ℕ) → ℕ
digit_for trial standing = cond (leb trial standing) 1 0

-- 4: the next sheet, with the digit, and a turn
abbrev pub with_digit : Sheet → (digit : ℕ) → Sheet
with_digit s digit = record { digits = s.digits * 2 + digit; remainder = standing_on s - trial_of s * digit; pairs = s.pairs % 2 ^ 52 * 4; left = s.left - 1 }

unfoldable pub turned : Sheet → Sheet
turned s = with_digit s (digit_for (trial_of s) (standing_on s))

unfoldable pub after_turns : (v n : ℕ) → Sheet
after_turns v zero = first_sheet v
after_turns v (suc n) = turned (after_turns v n)

-- 5: the part of the radicand that was brought down, and the sentence that holds on each sheet
abbrev pub brought_down : (v left : ℕ) → ℕ
brought_down v left = in_pairs v / 2 ^ (2 * left)

pub record OnPaper (v : ℕ) (s : Sheet) : Type 0 where
  pub sum : s.digits * s.digits + s.remainder ≡ brought_down v s.left
  pub small : s.remainder ≤ 2 * s.digits
  pub only : (d m : ℕ) → d * d + m ≡ brought_down v s.left → m ≤ 2 * d → d ≡ s.digits
  pub coming : s.pairs ≡ v * 2 ^ (2 * (54 - s.left)) % 2 ^ 54
  pub within : s.left ≤ 54
  pub room : v < 2 ^ 54

-- 6: the digits rounded, and the word
abbrev pub rounded_of : (digits : ℕ) → ℕ
rounded_of digits = (digits + 1) / 2

abbrev pub word_from : (h digits : ℕ) → ℕ
word_from h digits = (h + 1) * 2 ^ 52 + rounded_of digits

-- 7: a number's sheet after n turns; or it is zero, or is refused, with the root's number
pub data Shown : Type 0 where
  sheet : Sheet → Shown
  zero_itself : Shown
  refused : ℕ → Shown

abbrev pub shown : Result (Option Sheet) Reason → Shown
shown (Ok (Some s)) = sheet s
shown (Ok None) = zero_itself
shown (Err why) = refused (said.reason_number why)

abbrev pub shown_for : said.Said → Float → ℕ → Shown
shown_for (said.root r) x n = cond (eq x nought) zero_itself (sheet (after_turns (whole_of (steps binary64 x)) (min n 54)))
shown_for (said.refused k) x n = refused k

unfoldable pub sheet_of : Float → ℕ → Shown
sheet_of x n = shown_for (root_of x) x n

-- 6 and 7: the root that a sheet comes to, if it is the last one, and what has none
abbrev pub root_from : Float → Shown → said.Said
root_from x (sheet s) = said.root (of_bits binary64 (word_from (half_of (steps binary64 x)) s.digits))
root_from x zero_itself = said.root x
root_from x (refused k) = said.refused k
