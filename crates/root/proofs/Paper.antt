-- Laws of the root on paper. A turn keeps the sentence that holds on each sheet (`turn_holds`), so it holds after any number of turns (`after_holds`).
-- It fixes the sheet (`one_sheet`), and on the last sheet the digits are the whole root (`last_is_root`).
use mathlib.Core.Path.{◌≡◌, refl, sym, ap, ◌∙◌}
use mathlib.Core.Bool.{Bool, true, false, cond}
use Prim.Native.Nat.{ℕ, zero, suc, ◌+◌, ◌-◌, ◌*◌, ◌/◌, ◌%◌, ◌^◌, ◌≤◌, ◌<◌}
use native.Mathlib.Nat.{div-le_self, div-div-eq-div-mul, div-one, mul-div-mul_right, mul_comm, mul_assoc}
use native.Mathlib.Omega.{arith}
use lib.Dec.{leb}
use lib.Pow.{pow-add, pow_pos}
use borrow.Author.Tests.{leb-true, leb-false}
use Rattle.root.specs.declared.Sheet.{Sheet}
use Rattle.root.specs.Whole.{IsWholeRoot}
use Rattle.root.specs.Paper.{first_sheet, pair_of, standing_on, trial_of, digit_for, with_digit, turned, after_turns, brought_down, OnPaper}
use Rattle.root.proofs.Whole.{lt_of_square_lt, whole_root_unique}

-- digits whose remainder is at most twice themselves are the whole root
is_root : {n d m : ℕ} → d * d + m ≡ n → m ≤ 2 * d → IsWholeRoot n d
is_root e h = record { low = omega arith; high = omega arith }

pub digits_small : {v : ℕ} {s : Sheet} → OnPaper v s → s.digits < 2 ^ 54
digits_small {v} {s} p =
    let part : brought_down v s.left ≤ v * 2 ^ 54 = div-le_self (v * 2 ^ 54) (2 ^ (2 * s.left)) in
    lt_of_square_lt (omega (arith, p.sum, p.room, part))

pub pairs_small : {v : ℕ} {s : Sheet} → OnPaper v s → s.pairs < 2 ^ 54
pairs_small p = omega (arith, p.coming)

-- ---- a turn

-- the digit leaves a remainder that is small enough, and what it adds to the square is taken off
pub record Settles (d m pair digit : ℕ) : Type 0 where
  pub one : digit ≤ 1
  pub off : (d * 4 + 1) * digit ≤ m * 4 + pair
  pub sum : (d * 2 + digit) * (d * 2 + digit) + (m * 4 + pair - (d * 4 + 1) * digit) ≡ 4 * (d * d + m) + pair
  pub small : m * 4 + pair - (d * 4 + 1) * digit ≤ 2 * (d * 2 + digit)

settles : (d m pair : ℕ) → m ≤ 2 * d → pair ≤ 3 → Settles d m pair (digit_for (d * 4 + 1) (m * 4 + pair))
settles d m pair h k = go (leb (d * 4 + 1) (m * 4 + pair)) refl
  where
    go : (b : Bool) → leb (d * 4 + 1) (m * 4 + pair) ≡ b → Settles d m pair (cond b 1 0)
    go true e = let t = leb-true (d * 4 + 1) (m * 4 + pair) e in record { one = omega arith; off = omega (arith, t); sum = omega (arith, t); small = omega (arith, t) }
    go false e = let t = leb-false (d * 4 + 1) (m * 4 + pair) e in record { one = omega arith; off = omega arith; sum = omega arith; small = omega (arith, t) }

-- the part that was brought down grows by the pair: k turns are done, and j pairs are left behind it
module _ (v j k : ℕ) (all : k + j ≡ 53) where
  quarter : brought_down v (j + 1) ≡ brought_down v j / 4
  quarter =
      let up : 2 * (j + 1) ≡ 2 * j + 2 = omega arith in
      ap (λ (n : ℕ). v * 2 ^ 54 / n) (ap (λ (n : ℕ). 2 ^ n) up ∙ pow-add 2 (2 * j) 2) ∙ sym (div-div-eq-div-mul (v * 2 ^ 54) (2 ^ (2 * j)) 4)

  -- v moved up by k pairs, or the radicand without its last j
  moved : v * 2 ^ (2 * k) / 2 ^ 52 ≡ brought_down v j
  moved =
      let sum : 2 * k + 2 * j ≡ 106 = omega arith in
      let same : v * 2 ^ (2 * k) * 2 ^ (2 * j) ≡ v * 2 ^ 54 * 2 ^ 52 =
      mul_assoc v (2 ^ (2 * k)) (2 ^ (2 * j)) ∙ ap (λ (n : ℕ). v * n) (sym (pow-add 2 (2 * k) (2 * j)) ∙ ap (λ (n : ℕ). 2 ^ n) sum) ∙ omega arith in
      sym (mul-div-mul_right (v * 2 ^ (2 * k)) (2 ^ 52) (pow_pos (2 * j)))
      ∙ ap (λ (n : ℕ). n / (2 ^ 52 * 2 ^ (2 * j))) same
      ∙ ap (λ (n : ℕ). v * 2 ^ 54 * 2 ^ 52 / n) (mul_comm (2 ^ 52) (2 ^ (2 * j)))
      ∙ mul-div-mul_right (v * 2 ^ 54) (2 ^ (2 * j)) (pow_pos 52)

  next_part : brought_down v j ≡ 4 * brought_down v (j + 1) + v * 2 ^ (2 * k) % 2 ^ 54 / 2 ^ 52
  next_part = rw (quarter, top (v * 2 ^ (2 * k)), moved) (parts (brought_down v j))
    where
      top : (y : ℕ) → y % 2 ^ 54 / 2 ^ 52 ≡ y / 2 ^ 52 % 4
      top y = omega arith

      parts : (n : ℕ) → n ≡ 4 * (n / 4) + n % 4
      parts n = omega arith

  next_pairs : v * 2 ^ (2 * k) % 2 ^ 54 % 2 ^ 52 * 4 ≡ v * 2 ^ (2 * (k + 1)) % 2 ^ 54
  next_pairs =
      let up : 2 * (k + 1) ≡ 2 * k + 2 = omega arith in
      low (v * 2 ^ (2 * k)) ∙ ap (λ (n : ℕ). n % 2 ^ 54) (mul_assoc v (2 ^ (2 * k)) 4 ∙ ap (λ (n : ℕ). v * n) (sym (ap (λ (n : ℕ). 2 ^ n) up ∙ pow-add 2 (2 * k) 2)))
    where
      low : (y : ℕ) → y % 2 ^ 54 % 2 ^ 52 * 4 ≡ y * 4 % 2 ^ 54
      low y = omega arith

-- the sentence, of the sheet's numbers
on_paper : {v : ℕ} (s : Sheet) → s.digits * s.digits + s.remainder ≡ brought_down v s.left → s.remainder ≤ 2 * s.digits → s.pairs ≡ v * 2 ^ (2 * (54 - s.left)) % 2 ^ 54 → s.left ≤ 54 → v < 2 ^ 54
    → OnPaper v s
on_paper s sum small coming within room = record { sum = sum; small = small; only = λ d m e h. whole_root_unique (is_root e h) (is_root sum small); coming = coming; within = within; room = room }

-- what the sheet says of the next turn
pub turn_settles : {v : ℕ} (s : Sheet) → OnPaper v s → Settles s.digits s.remainder (pair_of s) (digit_for (trial_of s) (standing_on s))
turn_settles s p = settles s.digits s.remainder (pair_of s) p.small (omega (arith, pairs_small p))

pub turn_holds : {v : ℕ} (s : Sheet) → 0 < s.left → OnPaper v s → OnPaper v (with_digit s (digit_for (trial_of s) (standing_on s)))
turn_holds {v} s h p =
    let j : ℕ = s.left - 1 in
    let k : ℕ = 54 - s.left in
    let t = turn_settles s p in
    let left : j + 1 ≡ s.left = omega arith in
    let done : k + 1 ≡ 54 - j = omega (arith, p.within) in
    let all : k + j ≡ 53 = omega (arith, p.within) in
    let part : brought_down v j ≡ 4 * brought_down v s.left + pair_of s =
    next_part v j k all ∙ ap (λ (n : ℕ). 4 * brought_down v n + v * 2 ^ (2 * k) % 2 ^ 54 / 2 ^ 52) left ∙ ap (λ (n : ℕ). 4 * brought_down v s.left + n / 2 ^ 52) (sym p.coming) in
    on_paper
    (with_digit s (digit_for (trial_of s) (standing_on s)))
    (t.sum ∙ ap (λ (n : ℕ). 4 * n + pair_of s) p.sum ∙ sym part)
    t.small
    (ap (λ (n : ℕ). n % 2 ^ 52 * 4) p.coming ∙ next_pairs v j k all ∙ ap (λ (n : ℕ). v * 2 ^ (2 * n) % 2 ^ 54) done)
    (omega (arith, p.within))
    p.room

-- ---- any number of turns

pub first_holds : (v : ℕ) → v < 2 ^ 54 → OnPaper v (first_sheet v)
first_holds v h = on_paper (first_sheet v) (none v h) (omega arith) (whole v h) (omega arith) h
  where
    none : (v : ℕ) → v < 2 ^ 54 → 0 * 0 + 0 ≡ brought_down v 54
    none v h = omega arith

    whole : (v : ℕ) → v < 2 ^ 54 → v ≡ v * 2 ^ (2 * (54 - 54)) % 2 ^ 54
    whole v h = omega arith

pub left_after : (v n : ℕ) → (after_turns v n).left ≡ 54 - n
unfolding after_turns turned
left_after v zero = refl
left_after v (suc n) = rw (left_after v n) (omega arith)

pub after_holds : (v n : ℕ) → v < 2 ^ 54 → n ≤ 54 → OnPaper v (after_turns v n)
unfolding after_turns turned
after_holds v zero h k = first_holds v h
after_holds v (suc n) h k = turn_holds (after_turns v n) (rw (left_after v n) (omega arith)) (after_holds v n h (omega arith))

-- ---- the sentence fixes the sheet

pub one_sheet : {v : ℕ} (s r : Sheet) → OnPaper v s → OnPaper v r → s.left ≡ r.left → s ≡ r
one_sheet {v} s r p q e =
    let part = ap (brought_down v) e in
    let digits : s.digits ≡ r.digits = q.only s.digits s.remainder (p.sum ∙ part) p.small in
    let remainder : s.remainder ≡ r.remainder = omega (arith, rw digits at p.sum, part, q.sum) in
    let pairs : s.pairs ≡ r.pairs = p.coming ∙ ap (λ (n : ℕ). v * 2 ^ (2 * (54 - n)) % 2 ^ 54) e ∙ sym q.coming in
    rw (digits, remainder, pairs, e) refl

-- ---- the last sheet

pub last_is_root : {v : ℕ} (s : Sheet) → OnPaper v s → s.left ≡ 0 → IsWholeRoot (v * 2 ^ 54) s.digits
last_is_root {v} s p e = is_root (p.sum ∙ ap (brought_down v) e ∙ div-one (v * 2 ^ 54)) p.small
