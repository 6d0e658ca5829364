-- Laws of the lines of a root's turns, and how long they can be.
use mathlib.Core.Path.{◌≡◌, refl, ap, ap₂, ◌∙◌}
use mathlib.Core.List.{◌++◌, append-nil}
use Prim.Native.Nat.{ℕ, zero, suc, ◌+◌, ◌*◌, ◌%◌, ◌≤◌}
use native.Mathlib.Nat.{le_trans}
use native.Mathlib.Numerals.{add-one}
use native.Mathlib.Omega.{arith}
use lib.Ieee.{Float, binary64}
use lib.ListN.{length, length-append}
use Rattle.exact.specs.Numbers.{steps}
use Rattle.text.proofs.Length.{length_count, length_whole, length_number}
use Rattle.root.specs.declared.Sheet.{Sheet}
use Rattle.root.specs.Said as said
use Rattle.root.specs.Root.{root_of}
use Rattle.root.specs.Paper.{whole_of, pair_of, trial_of, after_turns, rounded_of, Shown, sheet, zero_itself, refused, sheet_of}
use Rattle.sheets.specs.Sheets.{refusal_line, root_line, turn_line, turn_lines, rounded_line, leading_up, working_lines, most_working}

-- one more turn
pub one_more_turn : (v n : ℕ) {s r : Sheet} → s ≡ after_turns v n → r ≡ after_turns v (n + 1) → turn_lines v n ++ turn_line (n + 1) s r ≡ turn_lines v (n + 1)
unfolding turn_lines
one_more_turn v n e f = ap₂ (λ (a b : Sheet). turn_lines v n ++ turn_line (n + 1) a b) e f ∙ more (n + 1) (add-one n)
  where
    more : (k : ℕ) → k ≡ suc n → turn_lines v n ++ turn_line k (after_turns v n) (after_turns v k) ≡ turn_lines v k
    more k e = rw e refl

-- the last turn
pub all_turns : (v n : ℕ) → n ≤ 54 → 54 ≤ n → turn_lines v n ≡ turn_lines v 54
all_turns v n h k = let e : n ≡ 54 = omega arith in ap (turn_lines v) e

-- the lines of a number, from what its last sheet and its root are
pub working_is : (x : Float) {a : Shown} {s : said.Said} → a ≡ sheet_of x 54 → s ≡ root_of x → leading_up (whole_of (steps binary64 x)) a ++ root_line s ≡ working_lines x
unfolding working_lines
working_is x e f = ap₂ (λ (a : Shown) (s : said.Said). leading_up (whole_of (steps binary64 x)) a ++ root_line s) e f

-- ---- how long they are

turn_most : (n : ℕ) (before after : Sheet) → length (turn_line n before after) ≤ 110
turn_most n before after =
    simp length-append (omega (arith, length_whole n, length_whole (pair_of before), length_whole (trial_of before), length_whole (after.digits % 2), length_whole after.remainder))

turns_most : (v n : ℕ) → length (turn_lines v n) ≤ n * 110
unfolding turn_lines
turns_most v zero = omega arith
turns_most v (suc n) = rw (length-append (turn_lines v n) (turn_line (suc n) (after_turns v n) (after_turns v (suc n)))) (omega (arith, turns_most v n, turn_most (suc n) (after_turns v n) (after_turns v (suc n))))

rounded_most : (s : Sheet) → length (rounded_line s) ≤ 50
rounded_most s = simp length-append (omega (arith, length_whole s.digits, length_whole (rounded_of s.digits)))

pub refusal_most : (k : ℕ) → length (refusal_line k) ≤ 19
refusal_most k = simp length-append (omega (arith, length_count k))

pub root_most : (s : said.Said) → length (root_line s) ≤ 22
root_most (said.root x) = simp (length-append, length_number x) (omega arith)
root_most (said.refused k) = le_trans (refusal_most k) (omega arith)

leading_most : (v : ℕ) (last : Shown) → length (leading_up v last) ≤ 5990
leading_most v (sheet s) = rw (append-nil (rounded_line s), length-append (turn_lines v 54) (rounded_line s)) (omega (arith, turns_most v 54, rounded_most s))
leading_most v zero_itself = omega arith
leading_most v (refused k) = omega arith

pub working_most : (x : Float) → length (working_lines x) ≤ most_working
unfolding working_lines
working_most x =
    let v = whole_of (steps binary64 x) in
    rw (length-append (leading_up v (sheet_of x 54)) (root_line (root_of x))) (omega (arith, leading_most v (sheet_of x 54), root_most (root_of x)))
