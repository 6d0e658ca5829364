-- What z comes to on the arc between two positions: STEPS, Required velocity 8 to 13 and 15. Definitions only.
use Rattle.std.specs.Prelude.{Float}
use Rattle.std.specs.Float.{nan}
use Rattle.exact.specs.Numbers.{◌⊕◌, ◌⊖◌, ◌⊗◌, ◌⊘◌, one}
use Rattle.root.specs.Said as root
use Rattle.root.specs.Root.{root_of}
use Rattle.universal.specs.declared.Functions.{Functions}
use Rattle.universal.specs.Functions.{functions_at, or_nans}
use Rattle.rows.specs.Rows.{Checked, pass, must}
use Rattle.vectors.specs.declared.Vector.{Vector}
use Rattle.vectors.specs.Vectors.{all_finite, over}
use Rattle.arc.specs.declared.Scaled.{Scaled}
use Rattle.arc.specs.declared.Shape.{Shape}

-- a root that is refused stands in T(z) as NaN
abbrev pub or_nan : root.Said → Float
or_nan (root.root x) = x
or_nan (root.refused k) = nan

unfoldable pub root_or_nan : Float → Float
root_or_nan x = or_nan (root_of x)

-- 8 to 11: C = U2 and S = U3; k = root(C); y = 1 + rho - (A*(1 - z*S))/k; g = root(y)
unfoldable pub shape_by : (rho a z : Float) → Functions → Shape
shape_by rho a z u =
    let s = u.u3 in
    let k = root_or_nan u.u2 in
    let y = one ⊕ rho ⊖ (a ⊗ (one ⊖ z ⊗ s)) ⊘ k in
    record { s = s; k = k; y = y; g = root_or_nan y }

-- 8: the functions at x = 1 with alpha = z, or NaNs where these are refused
abbrev pub shape_at : (rho a z : Float) → Shape
shape_at rho a z = shape_by rho a z (or_nans (functions_at one z))

-- 12 and 13: x = g/k; T = x*x*x*S + A*g
abbrev pub time_in : (a : Float) → Shape → Float
time_in a h = let x = h.g ⊘ h.k in x ⊗ x ⊗ x ⊗ h.s ⊕ a ⊗ h.g

-- T(z)
unfoldable pub time_at : Scaled → (z : Float) → Float
time_at o z = time_in o.a (shape_at o.rho o.a z)

-- 15: F = 1 - y and G = A*g; ((d - u*F)/G)/f1, by component
unfoldable pub departure_in : Scaled → Shape → Vector
departure_in o h =
    let f = one ⊖ h.y in
    let g = o.a ⊗ h.g in
    let u = o.u in
    let d = o.d in
    over (over (record { x = d.x ⊖ u.x ⊗ f; y = d.y ⊖ u.y ⊗ f; z = d.z ⊖ u.z ⊗ f }) g) o.f1

-- 15, and refusal 6 where a component is not finite
abbrev pub velocity_in : Scaled → Shape → Checked Vector
velocity_in o h =
    let v = departure_in o h in
    must (all_finite v) 6
    (pass v)

-- the same at z
unfoldable pub velocity_at : Scaled → (z : Float) → Checked Vector
velocity_at o z = velocity_in o (shape_at o.rho o.a z)
