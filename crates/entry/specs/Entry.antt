-- The tests before the first guess and what they compute: RULES, From the state to the scaled problem ("scaling" below), and Refusal
-- numbers, in order of test. Definitions only.
use Rattle.std.specs.Prelude.{cond, not, ◌&&◌, Float}
use Rattle.std.specs.Float.Ieee.{lt, le, neg}
use Rattle.exact.specs.Numbers.{◌⊖◌, ◌⊗◌, ◌⊘◌, number_of, nought, two, is_finite, magnitude}
use Rattle.search.specs.declared.Point.{Point}
use Rattle.search.specs.declared.Bracket.{Bracket}
use Rattle.vectors.specs.declared.Vector.{Vector}
use Rattle.conic.specs.declared.Problem.{Problem}
use Rattle.conic.specs.declared.Scaled.{Scaled}
use Rattle.rows.specs.Rows.{Checked, pass, must, onward}
use Rattle.search.specs.Search.{limit_allowed}
use Rattle.vectors.specs.Vectors.{all_finite, multiple, dot, over}
use Rattle.units.specs.Units.{given_tested, radius_of, unit_of, rooted, numbered}
use Rattle.conic.specs.Said.{input_number}
use Rattle.conic.specs.TimeAndRatio.{time_at}

-- 101 to 108, then 2, mu ≤ 0: the tests that Kepler and Theta begin with
unfoldable pub inputs_tested : (mu : Float) (r v : Vector) (last : Float) → Checked (Unit {0})
inputs_tested mu r v last =
    onward (given_tested input_number mu r v last) (λ finite.
    must (lt nought mu) 2
    (pass tt))

-- 2^-20
abbrev pub straight : Float
straight = number_of 0x3eb0_0000_0000_0000

-- refusal 6 where one of s, q, alpha, p, t is not finite; 7, a straight line, where p < 2^-20
unfoldable pub tested_by : (q : Float) → Scaled → Checked Scaled
tested_by q o =
    must (is_finite o.s && is_finite q && is_finite o.alpha && is_finite o.p && is_finite o.t) 6
    (must (not (lt o.p straight)) 7
    (pass o))

-- scaling 4 to 9. Refusal 6 where w is not finite, and the tests above
unfoldable pub scaled_by : (r v : Vector) (dt r0 f1 f4 : Float) → Checked Scaled
scaled_by r v dt r0 f1 f4 =
    let u = over r r0 in
    let w = multiple f1 v in
    let s = dot u w in
    let q = dot w w in
    let alpha = two ⊖ q in
    let p = q ⊖ s ⊗ s in
    let t = dt ⊘ f4 in
    must (all_finite w) 6
    (tested_by q (record { s = s; alpha = alpha; p = p; t = t; f4 = f4; r0 = r0; r = r; v = v }))

-- the scaled problem, from scaling 1 to 3 on: refusal 5 for the radius, 6 for the unit, and 14 for either root
unfoldable pub scaled_of : (mu : Float) (r v : Vector) (dt : Float) → Checked Scaled
scaled_of mu r v dt =
    onward (numbered 5 14 (radius_of r)) (λ r0.
    onward (numbered 6 14 (unit_of mu r0)) (λ f.
    scaled_by r v dt r0 f.0 f.1))

abbrev pub sixty_fourth : Float
sixty_fourth = number_of 0x3f90_0000_0000_0000

-- 63.5
abbrev pub farthest : Float
farthest = number_of 0x404f_c000_0000_0000

-- 7.9375
abbrev pub reach : Float
reach = number_of 0x401f_c000_0000_0000

-- scaling 10: X is 63.5 where |alpha| ≤ 1/64, else 7.9375/root(|alpha|). Refusal 14 where that root is refused
unfoldable pub far_end_of : (alpha : Float) → Checked Float
far_end_of alpha = cond (le (magnitude alpha) sixty_fourth) (pass farthest) (onward (rooted 14 (magnitude alpha)) (λ k. pass (reach ⊘ k)))

-- scaling 11: from 0 to X forwards, from -X to 0 backwards. The search: beside the end 0 stands the time 0, beside the far end its T
abbrev pub zero_end : Point
zero_end = record { x = nought; time = nought }

abbrev pub starting_bracket : (t : Float) (far : Point) → Bracket
starting_bracket t far = cond (le nought t) (record { lo = zero_end; hi = far }) (record { lo = far; hi = zero_end })

-- Refusal numbers, note a: 6 where T at the far end is not finite, right before 8. Refusal 8: t ≥ 0 and T(X) < t, or t < 0 and T(-X) > t
unfoldable pub bracketed_by : Scaled → (far time : Float) → Checked (Scaled × Bracket)
bracketed_by o far time =
    let t = o.t in
    must (is_finite time) 6
    (must (not (cond (le nought t) (lt time t) (lt t time))) 8
    (pass (o, starting_bracket t (record { x = far; time = time }))))

-- the far end on its side of 0, with its time there
unfoldable pub start_by : (time : Scaled → Float → Float) → Scaled → Checked (Scaled × Bracket)
start_by time o =
    onward (far_end_of o.alpha) (λ x.
    let far = cond (le nought o.t) x (neg x) in
    bracketed_by o far (time o far))

-- Kepler: 101 to 108, 2, then 3 where the limit is none of 1..100, and the tests above
abbrev pub entry_by : (time : Scaled → Float → Float) → Problem → Checked (Scaled × Bracket)
entry_by time p =
    onward (inputs_tested p.mu p.r p.v p.dt) (λ good.
    must (limit_allowed p.limit) 3
    (onward (scaled_of p.mu p.r p.v p.dt) (start_by time)))

-- the time is T
unfoldable pub entry_of : Problem → Checked (Scaled × Bracket)
entry_of p = entry_by time_at p

abbrev pub largest_angle : Float
largest_angle = number_of 0x4019_0000_0000_0000

-- Theta: 101 to 108, 2, then 4, |a| > 6.25, and the tests above but for t and the far end, which it has not: with dt 0, t is 0
unfoldable pub angle_entry_of : (mu : Float) (r v : Vector) (a : Float) → Checked Scaled
angle_entry_of mu r v a =
    onward (inputs_tested mu r v a) (λ good.
    must (le (magnitude a) largest_angle) 4
    (scaled_of mu r v nought))
