-- `root::digits::moved_up` meets its contract: the significand moved up loses no digit, and each arm is one of the two cases of `in_form`.
use mathlib.Core.Path.{◌≡◌}
use Prim.Native.Nat.{ℕ, ◌-◌, ◌*◌, ◌%◌, ◌^◌}
use native.Mathlib.Nat.{lt_of_lt_of_le, mul-one, mod-eq_of_lt}
use native.Mathlib.Omega.{arith}
use lib.Dec.{lit≤}
use lib.Count.{count_leading_zeros}
use Rattle.root.proofs.Form.{MovedUp, moved_up, in_form}
use Rattle.root.proofs.digits.moved_up.Goals as goal
use Rattle.root.proofs.digits.moved_up.Goals.{Start}

up_of : (c : Start) → MovedUp c.args.m (count_leading_zeros 64 c.args.m - 11)
up_of c = moved_up c.args.m c.requires.0 c.requires.1

-- a word has room for all 53 digits
whole : {m up : ℕ} → MovedUp m up → m * 2 ^ up % 18446744073709551616 ≡ m * 2 ^ up
whole a = mod-eq_of_lt (lt_of_lt_of_le a.most (lit≤ tt))

pub overflow_sub-up : goal.overflow_sub-up
overflow_sub-up c = omega (arith, (up_of (goal.at.overflow_sub-up c).Start).zeros)

pub overflow_cast-g : goal.overflow_cast-g
overflow_cast-g c = omega (arith, (up_of (goal.at.overflow_cast-g c).Start).within)

pub overflow_sub-g : goal.overflow_sub-g
overflow_sub-g c = omega (arith, (up_of (goal.at.overflow_sub-g c).Start).within)

pub overflow_add-h : goal.overflow_add-h
overflow_add-h c = omega (arith, (up_of (goal.at.overflow_add-h c).Start).within)

pub overflow_cast-v : goal.overflow_cast-v
overflow_cast-v c = omega (arith, (up_of (goal.at.overflow_cast-v c).Start).within)

pub overflow_shl-v : goal.overflow_shl-v
overflow_shl-v c = omega (arith, (up_of (goal.at.overflow_shl-v c).Start).within)

pub overflow_mul-result : goal.overflow_mul-result
overflow_mul-result c = rw (whole (up_of (goal.at.overflow_mul-result c).Start)) (omega (arith, (up_of (goal.at.overflow_mul-result c).Start).most))

pub returns-then-g-eq0 : goal.returns-then-g-eq0
returns-then-g-eq0 c = rw (whole (up_of (goal.at.returns-then-g-eq0 c).Start)) (in_form c.args.m c.args.c _ 1 (up_of (goal.at.returns-then-g-eq0 c).Start) c.requires.2 (omega arith) (omega arith))

pub returns-else-g-eq0 : goal.returns-else-g-eq0
returns-else-g-eq0 c = rw (whole (up_of (goal.at.returns-else-g-eq0 c).Start), ← mul-one (c.args.m * 2 ^ (count_leading_zeros 64 c.args.m - 11)))
    (in_form c.args.m c.args.c _ 0 (up_of (goal.at.returns-else-g-eq0 c).Start) c.requires.2 (omega arith) (omega arith))
