-- What a transfer that passes the tests is: the limit is allowed, t is a number and f4 one without a minus, the times of both ends are finite and
-- t lies between them, and the bracket is the starting one.
use mathlib.Core.Path.{◌≡◌, refl, sym, subst}
use mathlib.Core.Bool.{Bool, true, false, not, ◌&&◌}
use Prim.Native.Nat.{◌≤◌}
use borrow.Author.Tests.{leb-true, not-true}
use lib.Dec.{T, leb}
use lib.Ieee.{Float, binary64, lt}
use lib.Ieee.Fits.{and_l, div-fits}
use lib.Ieee.Bits.{is_true}
use Rattle.exact.specs.Numbers.{◌⊘◌, nought, is_finite, Number}
use Rattle.exact.proofs.Basics.{passed, both}
use Rattle.exact.proofs.Signs.{Plus}
use Rattle.rows.specs.Rows.{Checked, pass, must, onward}
use Rattle.rows.proofs.Laws.{pass_once, test_passed, rows_passed}
use Rattle.search.specs.declared.Bracket.{Bracket}
use Rattle.search.specs.Search.{limit_allowed}
use Rattle.vectors.specs.Vectors.{all_finite, dot, over}
use Rattle.units.specs.Units.{given_tested, radius_of, unit_of, numbered}
use Rattle.units.proofs.Positive.{unit_plus}
use Rattle.arc.specs.declared.Transfer.{Transfer}
use Rattle.arc.specs.declared.Scaled.{Scaled}
use Rattle.arc.specs.Arc.{time_at}
use Rattle.arc_entry.specs.ArcEntry.{factor_of, scaled_by, scaled_from, scaled_of, thirty_six, bracket_by, start_by, input_number, entry_of}

-- ---- the scaled transfer

-- the first of six tests that all hold
first_of : (a b c d e f : Bool) → a && b && c && d && e && f ≡ true → T a
first_of a b c d e f h = and_l a b (and_l (a && b) c (and_l (a && b && c) d (and_l (a && b && c && d) e (and_l (a && b && c && d && e) f (passed h)))))

by_number : (q : Transfer) (r0 m2 f1 f4 : Float) (o : Scaled) → scaled_by q r0 m2 f1 f4 ≡ pass o → Number binary64 o.t × (o.f4 ≡ f4)
unfolding scaled_by
by_number q r0 m2 f1 f4 o h =
    let t = q.dt ⊘ f4 in
    let u = over q.r1 r0 in
    let e = over q.r2 m2 in
    let d = over q.r2 r0 in
    let rho = m2 ⊘ r0 in
    let c = dot u e in
    let made : Float → Scaled = λ a. record { t = t; rho = rho; a = a; f1 = f1; f4 = f4; u = u; d = d } in
    let first = test_passed (is_finite t && all_finite u && all_finite e && all_finite d && is_finite rho && is_finite c) 6 (onward (factor_of q.way rho c) (λ a. pass (made a))) h in
    let A = rows_passed (factor_of q.way rho c) (λ a. pass (made a)) first.1 in
    subst (λ (s : Scaled). Number binary64 s.t × (s.f4 ≡ f4)) (pass_once A.2) ((div-fits binary64 q.dt f4, first_of (is_finite t) (all_finite u) (all_finite e) (all_finite d) (is_finite rho) (is_finite c) first.0), refl)

scaled_number : (q : Transfer) (o : Scaled) → T (lt nought q.mu) → scaled_of q ≡ pass o → Number binary64 o.t × Plus o.f4
unfolding scaled_of scaled_from
scaled_number q o above h =
    let R = rows_passed (numbered 5 6 (radius_of q.r1)) (λ r0. onward (numbered 5 6 (radius_of q.r2)) (λ m2. scaled_from q r0 m2)) h in
    let M = rows_passed (numbered 5 6 (radius_of q.r2)) (λ m2. scaled_from q R.0 m2) R.2 in
    let F = rows_passed (numbered 6 6 (unit_of q.mu R.0)) (λ f. scaled_by q R.0 M.0 f.0 f.1) M.2 in
    let by = by_number q R.0 M.0 F.0.0 F.0.1 o F.2 in
    (by.0, subst Plus (sym by.1) (unit_plus q.mu q.r1 R.0 F.0 5 6 6 6 above R.1 F.1))

-- ---- the tests

-- the bracket, with T at either end
abbrev pub starting_bracket : Scaled → Bracket
starting_bracket o = bracket_by (time_at o nought) (time_at o thirty_six)

pub record Started (o : Scaled) : Type 0 where
  pub first_finite : is_finite (time_at o nought) ≡ true
  pub first_reached : lt o.t (time_at o nought) ≡ false
  pub last_finite : is_finite (time_at o thirty_six) ≡ true
  pub last_reaches : lt (time_at o thirty_six) o.t ≡ false

started : (s : Scaled) (e : Scaled × Bracket) → start_by time_at s ≡ pass e → Started s × (e ≡ (s, starting_bracket s))
unfolding start_by
started s e h =
    let t = s.t in
    let low = time_at s nought in
    let high = time_at s thirty_six in
    let answer : Checked (Scaled × Bracket) = pass (s, starting_bracket s) in
    let first = test_passed (is_finite low) 6 (must (not (lt t low)) 51 (must (is_finite high) 6 (must (not (lt high t)) 52 answer))) h in
    let second = test_passed (not (lt t low)) 51 (must (is_finite high) 6 (must (not (lt high t)) 52 answer)) first.1 in
    let third = test_passed (is_finite high) 6 (must (not (lt high t)) 52 answer) second.1 in
    let fourth = test_passed (not (lt high t)) 52 answer third.1 in (
      record { first_finite = first.0; first_reached = not-true (lt t low) second.0; last_finite = third.0; last_reaches = not-true (lt high t) fourth.0 },
      sym (pass_once fourth.1),
    )

pub record Entered (q : Transfer) (o : Scaled) (b : Bracket) : Type 0 where
  pub least : 1 ≤ q.limit
  pub most : q.limit ≤ 100
  pub scaled : scaled_of q ≡ pass o
  pub t_number : Number binary64 o.t
  pub f4_plus : Plus o.f4
  pub start : Started o
  pub bracket_is : b ≡ starting_bracket o

pub entered : (q : Transfer) (o : Scaled) (b : Bracket) → entry_of q ≡ pass (o, b) → Entered q o b
unfolding entry_of
entered q o b h =
    let given = given_tested input_number q.mu q.r1 q.r2 q.dt in
    let above = lt nought q.mu in
    let row = onward (scaled_of q) (start_by time_at) in
    let first = rows_passed given (λ finite. must above 2 (must (limit_allowed q.limit) 3 row)) h in
    let second = test_passed above 2 (must (limit_allowed q.limit) 3 row) first.2 in
    let third = test_passed (limit_allowed q.limit) 3 row second.1 in
    let range = (both (leb 1 q.limit) (leb q.limit 100)).0 third.0 in
    let S = rows_passed (scaled_of q) (start_by time_at) third.1 in
    let o₀ : Scaled = S.0 in
    let numbers = scaled_number q o₀ (passed second.0) S.1 in
    let at-end = started o₀ (o, b) S.2 in
    subst (λ (e : Scaled × Bracket). Entered q e.0 e.1) (sym at-end.1) (record {
      least = leb-true 1 q.limit (is_true (leb 1 q.limit) range.0);
      most = leb-true q.limit 100 (is_true (leb q.limit 100) range.1);
      scaled = S.1;
      t_number = numbers.0;
      f4_plus = numbers.1;
      start = at-end.0;
      bracket_is = refl;
    })
