-- The tests that the solved cards of both kinds share, both ways: what a card that passes them has, and what passes them (`Passes`). From a fair
-- bracket the exact gap of the times is at most 2^-36 + 2^-89 (`gap_small`), and a gap of at most 2^-36 passes (`near_enough`). The residual, in
-- seconds, has no minus and is at most 2^988 s (`residual_most`), and acceptance does not depend on it (`no_seconds`). Another time and finding,
-- which are the same at an x in the bracket, have the same answer (`answered_same`).
use mathlib.Core.Path.{◌≡◌, refl, sym}
use mathlib.Core.Bool.{Bool, true, false, ◌&&◌}
use Prim.Native.Nat.{ℕ, ◌≤◌}
use lib.Dec.{T}
use lib.Ieee.{Float, binary64}
use lib.Ieee.Bits.{is_true}
use Rattle.exact.specs.Numbers.{is_finite, Number, is_near, gap, in_steps, most_gap}
use Rattle.exact.proofs.Basics.{passed, both}
use Rattle.exact.proofs.Signs.{Plus}
use Rattle.exact.proofs.Most.{AtMost}
use Rattle.exact.proofs.Tolerance.{gap_of_near, near_of_gap}
use Rattle.rows.specs.Rows.{Checked, pass, refuse, must, onward}
use Rattle.rows.proofs.Laws.{pass_once, test_passed, rows_passed, Refuses, passes, must_refuses, onward_refuses}
use Rattle.search.specs.declared.Bracket.{Bracket}
use Rattle.search.specs.Search.{within}
use Rattle.search.proofs.Laws.{within_finite}
use Rattle.search.proofs.Answers.{Fair}
use Rattle.compared.specs.Compared.{in_seconds, most_residual, timed_by, found_by, answered_by}
use Rattle.compared.proofs.Seconds.{in_seconds_most}

pub record Passes {A : Type 0} (time : Float → Float) (t : Float) (find : Float → Checked A) (same : A → Bool) (b : Bracket) (x : Float) (found : A) : Type 0 where
  pub x_in : within b x ≡ true
  pub time_finite : is_finite (time x) ≡ true
  pub near : is_near (time x) t ≡ true
  pub finding : find x ≡ pass found
  pub same_found : same found ≡ true

-- ---- the tests on the times

timed_is : (b : Bracket) (x time t unit r : Float) → timed_by b x time t unit ≡ pass r → (within b x ≡ true) × (is_finite time ≡ true) × (is_near time t ≡ true) × (r ≡ in_seconds time t unit)
unfolding timed_by
timed_is b x time t unit r h =
    let answer : Checked Float = pass (in_seconds time t unit) in
    let first = test_passed (is_finite x && within b x) 20 (must (is_finite time) 6 (must (is_near time t) 21 answer)) h in
    let second = test_passed (is_finite time) 6 (must (is_near time t) 21 answer) first.1 in
    let third = test_passed (is_near time t) 21 answer second.1 in
    (is_true (within b x) ((both (is_finite x) (within b x)).0 first.0).1, second.0, third.0, sym (pass_once third.1))

module _ {P : ℕ → Type 0} where
  timed_refuses : P 20 → P 6 → P 21 → (b : Bracket) (x time t unit : Float) → Refuses P (timed_by b x time t unit)
  unfolding timed_by
  timed_refuses outside lost off b x time t unit = must_refuses _ 20 _ outside (must_refuses _ 6 _ lost (must_refuses _ 21 _ off passes))

-- ---- all of them

-- accepted, or refused with a number; the residual is left out
abbrev pub ruled : Checked Float → Checked (Unit {0})
ruled (pass residual) = pass tt
ruled (refuse k) = refuse k

module _ {A : Type 0} (time : Float → Float) (t : Float) (find : Float → Checked A) (same : A → Bool) (b : Bracket) (x : Float) where
  pub answered_is : (unit r : Float) → answered_by time t unit find same b x ≡ pass r → (found : A) × Passes time t find same b x found × (r ≡ in_seconds (time x) t unit)
  unfolding found_by answered_by
  answered_is unit r h =
      let first = rows_passed (timed_by b x (time x) t unit) (λ residual. found_by find same x residual) h in
      let timely = timed_is b x (time x) t unit first.0 first.1 in
      let second = rows_passed (find x) (λ found. must (same found) 22 (pass first.0)) first.2 in
      let third = test_passed (same second.0) 22 (pass first.0) second.2 in
      (second.0, record { x_in = timely.0; time_finite = timely.1; near = timely.2; finding = second.1; same_found = third.0 }, rw (← timely.3) (sym (pass_once third.1)))

  pub answered_refuses : {P : ℕ → Type 0} (unit : Float) → P 20 → P 6 → P 21 → P 22 → ((x : Float) → Refuses P (find x)) → Refuses P (answered_by time t unit find same b x)
  unfolding found_by answered_by
  answered_refuses unit outside lost off other f = onward_refuses _ _ (timed_refuses outside lost off b x (time x) t unit) (λ residual. onward_refuses _ _ (f x) (λ found. must_refuses _ 22 _ other passes))

  -- whether a card is accepted, and the number with which it is refused, do not depend on the unit
  pub no_seconds : (unit other : Float) → ruled (answered_by time t unit find same b x) ≡ ruled (answered_by time t other find same b x)
  unfolding timed_by found_by answered_by must onward
  no_seconds unit other = go (is_finite x && within b x) (is_finite (time x)) (is_near (time x) t)
    where
      as_found : (c : Checked A) (r q : Float) → ruled (onward c (λ found. must (same found) 22 (pass r))) ≡ ruled (onward c (λ found. must (same found) 22 (pass q)))
      as_found (pass found) r q = compared_by (same found)
        where
          compared_by : (u : Bool) → ruled (must u 22 (pass r)) ≡ ruled (must u 22 (pass q))
          compared_by true = refl
          compared_by false = refl
      as_found (refuse k) r q = refl

      row : (u v w : Bool) (r : Float) → Checked Float
      row u v w r = onward (must u 20 (must v 6 (must w 21 (pass r)))) (λ residual. found_by find same x residual)

      go : (u v w : Bool) → ruled (row u v w (in_seconds (time x) t unit)) ≡ ruled (row u v w (in_seconds (time x) t other))
      go false v w = refl
      go true false w = refl
      go true true false = refl
      go true true true = as_found (find x) (in_seconds (time x) t unit) (in_seconds (time x) t other)

  pub answered_same : (otherTime : Float → Float) (otherFind : Float → Checked A) (unit : Float) → (within b x ≡ true → (time x ≡ otherTime x) × (find x ≡ otherFind x))
      → answered_by time t unit find same b x ≡ answered_by otherTime t unit otherFind same b x
  unfolding timed_by found_by answered_by must onward
  answered_same otherTime otherFind unit alike = go (is_finite x && within b x) refl
    where
      go : (u : Bool) → is_finite x && within b x ≡ u → answered_by time t unit find same b x ≡ answered_by otherTime t unit otherFind same b x
      go true e = let h = alike (is_true (within b x) ((both (is_finite x) (within b x)).0 e).1) in rw (h.0, h.1) refl
      go false e = rw e refl

  -- in a unit that is a finite number without a minus, so is the residual, and it is at most 2^988 s
  pub residual_most : {found : A} (unit : Float) → Plus unit → Passes time t find same b x found → AtMost most_residual (in_seconds (time x) t unit)
  residual_most unit u p = in_seconds_most (time x) t unit (passed p.near) u

  module _ (f : Fair time t b) where
    -- what lies in the bracket is finite
    pub x_finite : within b x ≡ true → T (is_finite x)
    x_finite w = within_finite b x f.starts.lo_number f.starts.hi_number w

    pub answered_passes : {found : A} (unit : Float) → Passes time t find same b x found → answered_by time t unit find same b x ≡ pass (in_seconds (time x) t unit)
    unfolding timed_by found_by answered_by must onward
    answered_passes unit p =
        let x-good : is_finite x && within b x ≡ true = (both (is_finite x) (within b x)).1 (x_finite p.x_in, passed p.x_in) in
        rw (x-good, p.time_finite, p.near, p.finding, p.same_found) refl

    -- where the time at x is finite, it is a number, as the wanted one is
    number : is_finite (time x) ≡ true → Number binary64 (time x)
    number g = (f.time_fits x, passed g)

    pub gap_small : {found : A} → Passes time t find same b x found → gap binary64 (time x) t ≤ most_gap
    gap_small p = gap_of_near (time x) t (number p.time_finite) f.t_number (passed p.near)

    pub near_enough : is_finite (time x) ≡ true → gap binary64 (time x) t ≤ in_steps 36 → is_near (time x) t ≡ true
    near_enough g l = is_true (is_near (time x) t) (near_of_gap (time x) t (number g) f.t_number l)
