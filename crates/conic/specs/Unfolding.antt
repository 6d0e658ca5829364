-- From the functions to a state: RULES, Unfolding, with the tests of The search 2, which Theta makes too. Definitions only.
use Rattle.std.specs.Prelude.{◌&&◌, Float}
use Rattle.std.specs.Float.Ieee.{le, neg}
use Rattle.exact.specs.Numbers.{◌⊕◌, ◌⊖◌, ◌⊗◌, ◌⊘◌, number_of, one}
use Rattle.conic.specs.declared.State.{State}
use Rattle.conic.specs.declared.Scaled.{Scaled}
use Rattle.rows.specs.Rows.{Checked, pass, must, renumbered, onward}
use Rattle.vectors.specs.Vectors.{all_finite, multiple, combined}
use Rattle.universal.specs.Functions.{functions_at, worked_at, ratio_of}
use Rattle.conic.specs.TimeAndRatio.{ratio_at}

-- Unfolding 1 and 2
unfoldable pub unfolded : Scaled → (u1 u2 ratio : Float) → State
unfolded o u1 u2 ratio =
    let f = one ⊖ u2 in
    let g = u1 ⊕ o.s ⊗ u2 in
    let ft = (neg u1 ⊘ ratio) ⊘ o.f4 in
    let gt = one ⊖ u2 ⊘ ratio in
    record { r = combined o.r f (multiple o.f4 o.v) g; v = combined o.r ft o.v gt }

-- 2^-10
abbrev pub least_ratio : Float
least_ratio = number_of 0x3f50_0000_0000_0000

-- The search 2: 11 where R is below 2^-10 or not a number; 6 where a component of what is unfolded is not finite
unfoldable pub arrival_of : Scaled → (u1 u2 ratio : Float) → Checked State
arrival_of o u1 u2 ratio =
    let state = unfolded o u1 u2 ratio in
    must (le least_ratio ratio) 11
    (must (all_finite state.r && all_finite state.v) 6
    (pass state))

-- the state that x unfolds to, where the functions are not refused
abbrev pub state_at : Scaled → (x : Float) → State
state_at o x = let u = worked_at x o.alpha in unfolded o u.u1 u.u2 (ratio_at o x)

-- The universal functions 9: 6 where the functions are refused; then the same tests at x
unfoldable pub arrival_at : Scaled → (x : Float) → Checked State
arrival_at o x = onward (renumbered 6 (functions_at x o.alpha)) (λ u. arrival_of o u.u1 u.u2 (ratio_of o.s u))
