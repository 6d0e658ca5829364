-- The functions are not refused in the starting bracket of a transfer, ends included (`bracket_works`): z stands beside 1, and between 0 and 36 it
-- is at most 36 (universal's `Small`). So the tests before the first guess are those of functions that are worked whatever z is (`worked_entry`).
use mathlib.Core.Path.{◌≡◌, refl, ap}
use mathlib.Core.Bool.{true}
use Prim.Native.Nat.{ℕ, ◌*◌, ◌≤◌, zero-le}
use native.Mathlib.Nat.{le_trans, le_of_eq, mul-le-mul_right}
use native.Mathlib.Omega.{arith}
use lib.Ieee.{Float, binary64, lt, le, eq, of_bits}
use Rattle.exact.specs.Numbers.{nought, one, Number, steps, in_steps}
use Rattle.exact.proofs.Basics.{passed}
use Rattle.exact.proofs.Zero.{nought_number, nought_steps}
use Rattle.exact.proofs.Constants.{one_number, one_steps}
use Rattle.exact.proofs.Sizes.{between_most}
use Rattle.universal.proofs.Range.{Small, Taken, small_taken}
use Rattle.rows.specs.Rows.{Checked, must, onward}
use Rattle.rows.proofs.Laws.{onward_same}
use Rattle.search.specs.declared.Bracket.{Bracket}
use Rattle.search.specs.Search.{limit_allowed}
use Rattle.units.specs.Units.{given_tested}
use Rattle.arc.specs.declared.Transfer.{Transfer}
use Rattle.arc.specs.declared.Scaled.{Scaled}
use Rattle.arc.specs.Arc.{time_at}
use Rattle.arc.proofs.Worked.{worked_time, worked_time_lem}
use Rattle.arc_entry.specs.ArcEntry.{scaled_of, thirty_six, start_by, input_number, entry_by, entry_of}
use Rattle.arc_entry.proofs.Fair.{upper_number}

upper_steps : steps binary64 thirty_six ≡ 36 * in_steps 0
unfolding steps of_bits in_steps
upper_steps = refl

at_most : (z L : ℕ) → z ≤ 36 * L → 2 * (z * (L * L)) ≤ 127 * (L * (L * L))
at_most z L l = omega (arith, mul-le-mul_right (L * L) l)

one_bounded : (L : ℕ) → L ≤ 64 * L
one_bounded L = omega arith

bracket_small : (z : Float) → Number binary64 z → le nought z ≡ true → le z thirty_six ≡ true → Small one z
bracket_small z h l u =
    let most = between_most binary64 nought z thirty_six (steps binary64 thirty_six) nought_number h upper_number (rw nought_steps zero-le) (le_of_eq refl) (passed l) (passed u) in
    record {
      product = rw one_steps (at_most (steps binary64 z) (in_steps 0) (le_trans most (le_of_eq upper_steps)));
      bounded = rw one_steps (one_bounded (in_steps 0));
    }

pub bracket_works : (z : Float) → Number binary64 z → le nought z ≡ true → le z thirty_six ≡ true → Taken one z
bracket_works z h l u = small_taken one z one_number h (bracket_small z h l u)

-- so at both ends, whose times are tested before the first guess
pub ends_work : Taken one nought × Taken one thirty_six
unfolding le lt eq of_bits
ends_work = (bracket_works nought nought_number refl refl, bracket_works thirty_six upper_number refl refl)

start_worked : (o : Scaled) → start_by time_at o ≡ start_by worked_time o
unfolding start_by
start_worked o = rw (worked_time_lem o nought ends_work.0.1, worked_time_lem o thirty_six ends_work.1.1) refl

pub worked_entry : (q : Transfer) → entry_of q ≡ entry_by worked_time q
unfolding entry_of
worked_entry q =
    let row : (Scaled → Checked (Scaled × Bracket)) → Checked (Scaled × Bracket) = λ start. must (lt nought q.mu) 2 (must (limit_allowed q.limit) 3 (onward (scaled_of q) start)) in
    let same = onward_same (scaled_of q) (start_by time_at) (start_by worked_time) (λ o h. start_worked o) in
    onward_same (given_tested input_number q.mu q.r1 q.r2 q.dt) (λ finite. row (start_by time_at)) (λ finite. row (start_by worked_time))
    (λ finite h. ap (λ (c : Checked (Scaled × Bracket)). must (lt nought q.mu) 2 (must (limit_allowed q.limit) 3 c)) same)
