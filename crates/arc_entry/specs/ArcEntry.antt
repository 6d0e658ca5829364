-- The tests of a transfer before the first guess and what they compute: STEPS, Required velocity 1 to 7 and 14, with the refusals in their
-- order. Definitions only.
use Rattle.std.specs.Prelude.{ℕ, not, ◌&&◌, Float}
use Rattle.std.specs.Float.Ieee.{lt, neg}
use Rattle.exact.specs.Numbers.{◌⊕◌, ◌⊖◌, ◌⊗◌, ◌⊘◌, number_of, nought, one, is_finite, magnitude}
use Rattle.rows.specs.Rows.{Checked, pass, must, onward}
use Rattle.search.specs.declared.Bracket.{Bracket}
use Rattle.search.specs.Search.{limit_allowed}
use Rattle.vectors.specs.Vectors.{all_finite, dot, over}
use Rattle.units.specs.Units.{given_tested, radius_of, unit_of, rooted, numbered}
use Rattle.arc.specs.declared.Way.{Way}
use Rattle.arc.specs.declared.Way.TheVariants as way
use Rattle.arc.specs.declared.Transfer.{Transfer}
use Rattle.arc.specs.declared.Scaled.{Scaled}
use Rattle.arc.specs.Arc.{time_at}

-- 2^-20
abbrev pub nearest : Float
nearest = number_of 0x3eb0_0000_0000_0000

-- 7: A, or -A for the long way
abbrev pub signed : Way → Float → Float
signed way.Short k = k
signed way.Long k = neg k

-- 50 where 1 - |c| < 2^-20; 6 where the root is refused. 7: A = root(rho*(1 + c))
unfoldable pub factor_of : Way → (rho c : Float) → Checked Float
factor_of w rho c =
    must (not (lt (one ⊖ magnitude c) nearest)) 50
    (onward (rooted 6 (rho ⊗ (one ⊕ c))) (λ k.
    pass (signed w k)))

-- 4 to 6: 6 where one of t, u, e, d, rho, c is not finite; then A
unfoldable pub scaled_by : Transfer → (r0 m2 f1 f4 : Float) → Checked Scaled
scaled_by q r0 m2 f1 f4 =
    let t = q.dt ⊘ f4 in
    let rho = m2 ⊘ r0 in
    let u = over q.r1 r0 in
    let e = over q.r2 m2 in
    let d = over q.r2 r0 in
    let c = dot u e in
    must (is_finite t && all_finite u && all_finite e && all_finite d && is_finite rho && is_finite c) 6
    (onward (factor_of q.way rho c) (λ a.
    pass (record { t = t; rho = rho; a = a; f1 = f1; f4 = f4; u = u; d = d })))

-- 3: 6 for the units
unfoldable pub scaled_from : Transfer → (r0 m2 : Float) → Checked Scaled
scaled_from q r0 m2 =
    onward (numbered 6 6 (unit_of q.mu r0)) (λ f.
    scaled_by q r0 m2 f.0 f.1)

-- 1 and 2: 5 for either radius; 6 where its root is refused
unfoldable pub scaled_of : Transfer → Checked Scaled
scaled_of q =
    onward (numbered 5 6 (radius_of q.r1)) (λ r0.
    onward (numbered 5 6 (radius_of q.r2)) (λ m2.
    scaled_from q r0 m2))

abbrev pub thirty_six : Float
thirty_six = number_of 0x4042_0000_0000_0000

-- 14: the starting bracket, each end with its own T
abbrev pub bracket_by : (first last : Float) → Bracket
bracket_by first last = record { lo = record { x = nought; time = first }; hi = record { x = thirty_six; time = last } }

-- 6 where T(0) is not finite, 51 where t < T(0), the same 6 for T(36), 52 where t > T(36)
unfoldable pub start_by : (time : Scaled → Float → Float) → Scaled → Checked (Scaled × Bracket)
start_by time o =
    let first = time o nought in
    let last = time o thirty_six in
    must (is_finite first) 6
    (must (not (lt o.t first)) 51
    (must (is_finite last) 6
    (must (not (lt last o.t)) 52
    (pass (o, bracket_by first last)))))

-- 1, whatever the place of the number that is not finite
abbrev pub input_number : (place : ℕ) → ℕ
input_number place = 1

-- 1, 2 and 3, then the tests above
abbrev pub entry_by : (time : Scaled → Float → Float) → Transfer → Checked (Scaled × Bracket)
entry_by time q =
    onward (given_tested input_number q.mu q.r1 q.r2 q.dt) (λ finite.
    must (lt nought q.mu) 2
    (must (limit_allowed q.limit) 3
    (onward (scaled_of q) (start_by time))))

-- the time is T
unfoldable pub entry_of : Transfer → Checked (Scaled × Bracket)
entry_of q = entry_by time_at q
