-- The functions are not refused in the starting bracket of a problem that passed, ends included (`bracket_works`), nor at the far end, on either
-- side of 0, of one whose far end is still to be tested (`far_end_works`). The far end is small beside alpha (universal's `Small`), and what lies
-- between it and 0 is no larger. So the entry tests are those of functions that are worked whatever z is (`worked_entry`).
use mathlib.Core.Path.{◌≡◌, refl, sym, ap, subst}
use mathlib.Core.Bool.{Bool, true, false, cond}
use Prim.Native.Nat.{ℕ, ◌≤◌, zero-le}
use native.Mathlib.Nat.{le_of_eq}
use lib.Ieee.{Float, binary64, le, neg}
use Rattle.exact.specs.Numbers.{nought, Number, steps}
use Rattle.exact.proofs.Basics.{both}
use Rattle.exact.proofs.Zero.{nought_steps}
use Rattle.exact.proofs.Arithmetic.{neg_number}
use Rattle.exact.proofs.Sizes.{between_most}
use Rattle.rows.specs.Rows.{pass, must, onward}
use Rattle.rows.proofs.Laws.{onward_same}
use Rattle.search.specs.declared.Point.{Point}
use Rattle.search.specs.declared.Bracket.{Bracket}
use Rattle.search.specs.Search.{limit_allowed}
use Rattle.search.proofs.Hunt.{point_at}
use Rattle.search.proofs.Laws.{In}
use Rattle.conic.specs.declared.Problem.{Problem}
use Rattle.conic.specs.declared.Scaled.{Scaled}
use Rattle.conic.specs.TimeAndRatio.{time_at}
use Rattle.conic.proofs.Worked.{worked_time, worked_time_lem}
use Rattle.universal.proofs.Range.{Taken, small_within, small_taken}
use Rattle.entry.specs.Entry.{inputs_tested, scaled_of, zero_end, far_end_of, bracketed_by, start_by, entry_by, entry_of}
use Rattle.entry.proofs.Passed.{Entered, above_zero, scaled_is}
use Rattle.entry.proofs.FarEnd.{far_end_is}
use Rattle.entry.proofs.Fair.{fair}

-- ---- the far end, before the test of its time

pub far_end_works : (p : Problem) (o : Scaled) (X : Float) → inputs_tested p.mu p.r p.v p.dt ≡ pass tt → scaled_of p.mu p.r p.v p.dt ≡ pass o → far_end_of o.alpha ≡ pass X
    → Taken X o.alpha × Taken (neg X) o.alpha
far_end_works p o X i s e =
    let alpha = o.alpha in
    let k = (scaled_is p.mu p.r p.v p.dt o (above_zero p.mu p.r p.v p.dt i) s).alpha_number in
    let f = far_end_is alpha X k e in
    let back = neg_number binary64 X f.number in
    (small_taken X alpha f.number k f.small, small_taken (neg X) alpha back.0 k (small_within (neg X) X alpha f.small (le_of_eq back.2)))

-- ---- the starting bracket

far_size : (u : Bool) (X : Float) → Number binary64 X → steps binary64 (cond u X (neg X)) ≤ steps binary64 X
far_size true X h = le_of_eq refl
far_size false X h = le_of_eq (neg_number binary64 X h).2

-- ends of no more than n steps
abbrev Ends : ℕ → Bracket → Type 0
Ends n b = (steps binary64 b.lo.x ≤ n) × (steps binary64 b.hi.x ≤ n)

zero_size : (n : ℕ) → steps binary64 nought ≤ n
zero_size n = rw nought_steps zero-le

ends_size : (u : Bool) (far : Point) (n : ℕ) → steps binary64 far.x ≤ n → Ends n (cond u (record { lo = zero_end; hi = far }) (record { lo = far; hi = zero_end }))
ends_size true far n l = (zero_size n, l)
ends_size false far n l = (l, zero_size n)

-- anywhere in the starting bracket of a problem that passed
pub bracket_works : (p : Problem) (o : Scaled) (b : Bracket) → Entered p o b → (x : Float) → In b x → Taken x o.alpha
bracket_works p o b e x (number, i) =
    let u = le nought o.t in
    let X = e.far in
    let f = far_end_is o.alpha X e.numbers.alpha_number e.far_is in
    let s = (fair p o b e).starts in
    let ends = subst (Ends (steps binary64 X)) (sym e.bracket_is) (ends_size u (point_at (time_at o) (cond u X (neg X))) (steps binary64 X) (far_size u X f.number)) in
    let between = (both (le b.lo.x x) (le x b.hi.x)).0 i in
    small_taken x o.alpha number e.numbers.alpha_number (small_within x X o.alpha f.small (between_most binary64 b.lo.x x b.hi.x (steps binary64 X) s.lo_number number s.hi_number ends.0 ends.1 between.0 between.1))

-- ---- the entry tests

-- on either side
at_far : (b : Bool) (o : Scaled) (X : Float) → Taken X o.alpha × Taken (neg X) o.alpha → time_at o (cond b X (neg X)) ≡ worked_time o (cond b X (neg X))
at_far true o X t = worked_time_lem o X t.0.1
at_far false o X t = worked_time_lem o (neg X) t.1.1

start_worked : (o : Scaled) → ((X : Float) → far_end_of o.alpha ≡ pass X → Taken X o.alpha × Taken (neg X) o.alpha) → start_by time_at o ≡ start_by worked_time o
unfolding start_by
start_worked o works =
    let far : Float → Float = λ X. cond (le nought o.t) X (neg X) in
    onward_same (far_end_of o.alpha) (λ X. bracketed_by o (far X) (time_at o (far X))) (λ X. bracketed_by o (far X) (worked_time o (far X)))
    (λ X e. ap (bracketed_by o (far X)) (at_far (le nought o.t) o X (works X e)))

pub worked_entry : (p : Problem) → entry_of p ≡ entry_by worked_time p
unfolding entry_of
worked_entry p =
    let scaled = scaled_of p.mu p.r p.v p.dt in
    onward_same (inputs_tested p.mu p.r p.v p.dt) (λ good. must (limit_allowed p.limit) 3 (onward scaled (start_by time_at))) (λ good. must (limit_allowed p.limit) 3 (onward scaled (start_by worked_time)))
    (λ good i. ap (must (limit_allowed p.limit) 3) (onward_same scaled (start_by time_at) (start_by worked_time) (λ o s. start_worked o (λ X e. far_end_works p o X i s e))))
