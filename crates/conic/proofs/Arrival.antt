-- The arrival at x: what a state that passes its tests is, both ways. And the numbers with which it can refuse: 11 and 6 (`arrival_refuses`:
-- whatever these have, each refusal's number has).
use mathlib.Core.Path.{◌≡◌, refl, sym, subst}
use mathlib.Core.Logic.{◌↔◌}
use mathlib.Core.Bool.{true, ◌&&◌}
use Prim.Native.Nat.{ℕ}
use lib.Ieee.{Float, le}
use Rattle.rows.specs.Rows.{Checked, pass, must, renumbered, onward}
use Rattle.rows.proofs.Laws.{pass_once, test_passed, rows_passed, renumbered_passed, Refuses, passes, must_refuses, renumbered_refuses, onward_refuses}
use Rattle.conic.specs.declared.State.{State}
use Rattle.conic.specs.declared.Scaled.{Scaled}
use Rattle.vectors.specs.Vectors.{all_finite}
use Rattle.universal.specs.declared.Functions.{Functions}
use Rattle.universal.specs.Functions.{functions_at, ratio_of}
use Rattle.universal.proofs.Worked.{Works, passed_is, passed_works}
use Rattle.conic.specs.TimeAndRatio.{ratio_at}
use Rattle.conic.specs.Unfolding.{least_ratio, arrival_of, state_at, arrival_at}

pub record Arrives (o : Scaled) (x : Float) (state : State) : Type 0 where
  pub works : Works x o.alpha
  pub allowed : le least_ratio (ratio_at o x) ≡ true
  pub finite : all_finite state.r && all_finite state.v ≡ true
  pub state_is : state_at o x ≡ state

pub arrives : (o : Scaled) (x : Float) (state : State) → (arrival_at o x ≡ pass state) ↔ Arrives o x state
unfolding must onward arrival_of arrival_at
arrives o x state = (there, λ a. rw (a.works, a.allowed, a.state_is, a.finite) refl)
  where
    by : Functions → Checked State
    by u = arrival_of o u.u1 u.u2 (ratio_of o.s u)

    there : arrival_at o x ≡ pass state → Arrives o x state
    there h =
        let row = rows_passed (renumbered 6 (functions_at x o.alpha)) by h in
        let given = renumbered_passed 6 (functions_at x o.alpha) row.1 in
        let worked = sym (passed_is x o.alpha given) in
        let all-finite = all_finite (state_at o x).r && all_finite (state_at o x).v in
        let first = test_passed (le least_ratio (ratio_at o x)) 11 (must all-finite 6 (pass (state_at o x))) (subst (λ (u : Functions). by u ≡ pass state) worked row.2) in
        let second = test_passed all-finite 6 (pass (state_at o x)) first.1 in
        let is : state_at o x ≡ state = pass_once second.1 in
        record { works = passed_works x o.alpha given; allowed = first.0; finite = subst (λ (a : State). all_finite a.r && all_finite a.v ≡ true) is second.0; state_is = is }

-- ---- the numbers

module _ {P : ℕ → Type 0} (p11 : P 11) (p6 : P 6) (o : Scaled) where
  pub unfolding_refuses : (u1 u2 ratio : Float) → Refuses P (arrival_of o u1 u2 ratio)
  unfolding arrival_of
  unfolding_refuses u1 u2 ratio = must_refuses _ 11 _ p11 (must_refuses _ 6 _ p6 passes)

  pub arrival_refuses : (x : Float) → Refuses P (arrival_at o x)
  unfolding arrival_at
  arrival_refuses x = onward_refuses _ _ (renumbered_refuses 6 (functions_at x o.alpha) p6) (λ u. unfolding_refuses _ _ _)
