-- What a problem that passes the entry tests is: each row of tests passed, s, alpha, p and t are numbers, f4 is one without a minus, and the
-- bracket is the starting one.
use mathlib.Core.Path.{◌≡◌, refl, sym, subst}
use mathlib.Core.Bool.{Bool, true, false, cond, not, ◌&&◌}
use Prim.Native.Nat.{◌≤◌}
use borrow.Author.Tests.{leb-true, not-true}
use lib.Dec.{T, leb}
use lib.Ieee.{Float, binary64, lt, le, neg, fits}
use lib.Ieee.Fits.{add-fits, sub-fits, div-fits}
use lib.Ieee.Bits.{is_true}
use Rattle.exact.specs.Numbers.{◌⊕◌, ◌⊖◌, ◌⊗◌, ◌⊘◌, nought, two, is_finite, Number, magnitude}
use Rattle.exact.proofs.Basics.{passed, both}
use Rattle.exact.proofs.Signs.{Plus}
use Rattle.search.specs.declared.Bracket.{Bracket}
use Rattle.search.proofs.Hunt.{point_at}
use Rattle.vectors.specs.declared.Vector.{Vector}
use Rattle.conic.specs.declared.Problem.{Problem}
use Rattle.conic.specs.declared.Scaled.{Scaled}
use Rattle.rows.specs.Rows.{Checked, pass, must, onward}
use Rattle.search.specs.Search.{limit_allowed}
use Rattle.vectors.specs.Vectors.{all_finite, multiple, dot, over}
use Rattle.units.specs.Units.{given_tested, radius_of, unit_of, numbered}
use Rattle.units.proofs.Positive.{unit_plus}
use Rattle.conic.specs.Said.{input_number}
use Rattle.conic.specs.TimeAndRatio.{time_at}
use Rattle.entry.specs.Entry.{straight, inputs_tested, tested_by, scaled_by, scaled_of, far_end_of, starting_bracket, bracketed_by, start_by, entry_of, largest_angle, angle_entry_of}
use Rattle.rows.proofs.Laws.{pass_once, test_passed, rows_passed}

-- ---- the scaled problem

pub record Numbers (o : Scaled) : Type 0 where
  pub s_number : Number binary64 o.s
  pub alpha_number : Number binary64 o.alpha
  pub p_number : Number binary64 o.p
  pub t_number : Number binary64 o.t
  pub f4_plus : Plus o.f4

-- the numbers fit, since each is the result of an operation
abbrev Fit : Scaled → Type 0
Fit o = T (fits binary64 o.s) × T (fits binary64 o.alpha) × T (fits binary64 o.p) × T (fits binary64 o.t)

five : (a b c d e : Bool) → a && b && c && d && e ≡ true → T a × T b × T c × T d × T e
five a b c d e h =
    let p = (both (a && b && c && d) e).0 h in
    let q = (both (a && b && c) d).0 (is_true (a && b && c && d) p.0) in
    let r = (both (a && b) c).0 (is_true (a && b && c) q.0) in
    let s = (both a b).0 (is_true (a && b) r.0) in
    (s.0, s.1, r.1, q.1, p.1)

tested_is : (q : Float) (o e : Scaled) → tested_by q o ≡ pass e → Fit o → Plus o.f4 → (o ≡ e) × Numbers o
unfolding tested_by
tested_is q o e h f plus =
    let finite = is_finite o.s && is_finite q && is_finite o.alpha && is_finite o.p && is_finite o.t in
    let no_line = not (lt o.p straight) in
    let first = test_passed finite 6 (must no_line 7 (pass o)) h in
    let each = five (is_finite o.s) (is_finite q) (is_finite o.alpha) (is_finite o.p) (is_finite o.t) first.0 in
    (pass_once (test_passed no_line 7 (pass o) first.1).1, record { s_number = (f.0, each.0); alpha_number = (f.1, each.2); p_number = (f.2, each.3); t_number = (f.3, each.4); f4_plus = plus })

pub scaled_is : (mu : Float) (r v : Vector) (dt : Float) (e : Scaled) → T (lt nought mu) → scaled_of mu r v dt ≡ pass e → Numbers e
unfolding scaled_by scaled_of
scaled_is mu r v dt e above h =
    let R = rows_passed (numbered 5 14 (radius_of r)) (λ r0. onward (numbered 6 14 (unit_of mu r0)) (λ f. scaled_by r v dt r0 f.0 f.1)) h in
    let r0 = R.0 in
    let F = rows_passed (numbered 6 14 (unit_of mu r0)) (λ f. scaled_by r v dt r0 f.0 f.1) R.2 in
    let f1 = F.0.0 in
    let f4 = F.0.1 in
    let w = multiple f1 v in
    let s = dot (over r r0) w in
    let q = dot w w in
    let o : Scaled = record { s = s; alpha = two ⊖ q; p = q ⊖ s ⊗ s; t = dt ⊘ f4; f4 = f4; r0 = r0; r = r; v = v } in
    let is = tested_is q o e (test_passed (all_finite w) 6 (tested_by q o) F.2).1 (
      add-fits binary64 ((over r r0).x ⊗ w.x ⊕ (over r r0).y ⊗ w.y) ((over r r0).z ⊗ w.z),
      sub-fits binary64 two q,
      sub-fits binary64 q (s ⊗ s),
      div-fits binary64 dt f4,
    ) (unit_plus mu r r0 F.0 5 14 6 14 above R.1 F.1) in
    subst Numbers is.0 is.1

-- ---- the entry

-- a far end x of a starting bracket that was taken: its time is finite and not short of t
pub record Reaches (o : Scaled) (far : Float) : Type 0 where
  pub finite : is_finite (time_at o far) ≡ true
  pub reaches : cond (le nought o.t) (lt (time_at o far) o.t) (lt o.t (time_at o far)) ≡ false

pub record Entered (p : Problem) (o : Scaled) (b : Bracket) : Type 0 where
  pub inputs : inputs_tested p.mu p.r p.v p.dt ≡ pass tt
  pub least : 1 ≤ p.limit
  pub most : p.limit ≤ 100
  pub scaled : scaled_of p.mu p.r p.v p.dt ≡ pass o
  pub numbers : Numbers o
  pub far : Float
  pub far_is : far_end_of o.alpha ≡ pass far
  pub far_reaches : Reaches o (cond (le nought o.t) far (neg far))
  pub bracket_is : b ≡ starting_bracket o.t (point_at (time_at o) (cond (le nought o.t) far (neg far)))

pub above_zero : (mu : Float) (r v : Vector) (last : Float) {good : Unit {0}} → inputs_tested mu r v last ≡ pass good → T (lt nought mu)
unfolding inputs_tested
above_zero mu r v last h =
    let first = rows_passed (given_tested input_number mu r v last) (λ finite. must (lt nought mu) 2 (pass tt)) h in
    passed (test_passed (lt nought mu) 2 (pass tt) first.2).0

bracketed_is : (o : Scaled) (far : Float) (e : Scaled × Bracket) → bracketed_by o far (time_at o far) ≡ pass e → Reaches o far × (e ≡ (o, starting_bracket o.t (point_at (time_at o) far)))
unfolding bracketed_by
bracketed_is o far e h =
    let short = cond (le nought o.t) (lt (time_at o far) o.t) (lt o.t (time_at o far)) in
    let answer : Checked (Scaled × Bracket) = pass (o, starting_bracket o.t (point_at (time_at o) far)) in
    let first = test_passed (is_finite (time_at o far)) 6 (must (not short) 8 answer) h in
    let second = test_passed (not short) 8 answer first.1 in
    (record { finite = first.0; reaches = not-true short second.0 }, sym (pass_once second.1))

pub entered : (p : Problem) (o : Scaled) (b : Bracket) → entry_of p ≡ pass (o, b) → Entered p o b
unfolding start_by entry_of
entered p o b h =
    let in_range_lem = limit_allowed p.limit in
    let row = onward (scaled_of p.mu p.r p.v p.dt) (start_by time_at) in
    let inputs = rows_passed (inputs_tested p.mu p.r p.v p.dt) (λ good. must in_range_lem 3 row) h in
    let above = above_zero p.mu p.r p.v p.dt inputs.1 in
    let third = test_passed in_range_lem 3 row inputs.2 in
    let range = (both (leb 1 p.limit) (leb p.limit 100)).0 third.0 in
    let S = rows_passed (scaled_of p.mu p.r p.v p.dt) (start_by time_at) third.1 in
    let e : Scaled = S.0 in
    let X = rows_passed (far_end_of e.alpha) (λ x. let far = cond (le nought e.t) x (neg x) in bracketed_by e far (time_at e far)) S.2 in
    let B = bracketed_is e (cond (le nought e.t) X.0 (neg X.0)) (o, b) X.2 in
    subst (λ (eb : Scaled × Bracket). Entered p eb.0 eb.1) (sym B.1) (record {
      inputs = inputs.1;
      scaled = S.1;
      numbers = scaled_is p.mu p.r p.v p.dt e above S.1;
      least = leb-true 1 p.limit (is_true (leb 1 p.limit) range.0);
      most = leb-true p.limit 100 (is_true (leb p.limit 100) range.1);
      far = X.0;
      far_is = X.1;
      far_reaches = B.0;
      bracket_is = refl;
    })

-- ---- Theta's entry

-- an angle that passed is not too large
pub angle_allowed : (mu : Float) (r v : Vector) (a : Float) (o : Scaled) → angle_entry_of mu r v a ≡ pass o → le (magnitude a) largest_angle ≡ true
unfolding angle_entry_of
angle_allowed mu r v a o h =
    let inputs = rows_passed (inputs_tested mu r v a) (λ good. must (le (magnitude a) largest_angle) 4 (scaled_of mu r v nought)) h in
    (test_passed (le (magnitude a) largest_angle) 4 (scaled_of mu r v nought) inputs.2).0
