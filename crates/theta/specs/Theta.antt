-- Through an angle: RULES, Theta. Definitions only.
use Rattle.std.specs.Prelude.{Float}
use Rattle.std.specs.Float.Ieee.{le}
use Rattle.exact.specs.Numbers.{◌⊕◌, ◌⊖◌, ◌⊗◌, ◌⊘◌, number_of, one, two}
use Rattle.conic.specs.declared.State.{State}
use Rattle.vectors.specs.declared.Vector.{Vector}
use Rattle.conic.specs.declared.Scaled.{Scaled}
use Rattle.rows.specs.Rows.{Checked, must, renumbered, onward}
use Rattle.search.specs.Answers.{with_found}
use Rattle.conic.specs.Said.{Said}
use Rattle.universal.specs.Functions.{functions_at}
use Rattle.conic.specs.Unfolding.{arrival_of}
use Rattle.units.specs.Units.{rooted}
use Rattle.entry.specs.Entry.{angle_entry_of}

-- 2^-10
abbrev pub least_den : Float
least_den = number_of 0x3f50_0000_0000_0000

-- Theta 3
abbrev pub den_of : (s p k sh ch : Float) → Float
den_of s p k sh ch = one ⊕ (p ⊖ one) ⊗ (one ⊖ two ⊗ sh ⊗ sh) ⊖ s ⊗ k ⊗ (two ⊗ sh ⊗ ch)

-- refusal 12 where den is below 2^-10 or not a number. Theta 4 to 7: R = p/den; U2 = 2*(R/p)*sh*sh; U1 = 2*R*sh*(ch - s*sh/k)/k; unfold
unfoldable pub reached_state : Scaled → (k sh ch : Float) → Checked State
reached_state o k sh ch =
    let s = o.s in
    let p = o.p in
    let den = den_of s p k sh ch in
    let ratio = p ⊘ den in
    let u2 = two ⊗ (ratio ⊘ p) ⊗ sh ⊗ sh in
    let u1 = two ⊗ ratio ⊗ sh ⊗ (ch ⊖ s ⊗ sh ⊘ k) ⊘ k in
    must (le least_den den) 12
    (arrival_of o u1 u2 ratio)

-- Theta 1 and 2: sh = U1 and ch = U0 with alpha 1 at a/2, or 6; k = root(p)
unfoldable pub turned_state : Scaled → (a : Float) → Checked State
turned_state o a =
    onward (renumbered 6 (functions_at (a ⊘ two) one)) (λ half.
    onward (rooted 14 o.p) (λ k.
    reached_state o k half.u1 half.u0))

-- Theta 7: the angle stands as x, and the count is 0
unfoldable pub theta_of : (mu : Float) (r v : Vector) (a : Float) → Said
theta_of mu r v a = with_found a 0 (onward (angle_entry_of mu r v a) (λ o. turned_state o a))
