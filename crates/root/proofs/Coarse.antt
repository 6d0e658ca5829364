-- How far below the exact root a root may lie, coarsely: 1025/1024 of it is no less. With s the 54 digits of the whole root and B the power of two
-- that they are moved up by, the root is at least s * B, and the exact one below (s + 1) * B.
use mathlib.Core.Path.{ap, ◌∙◌, subst}
use Prim.Native.Nat.{ℕ, ◌+◌, ◌*◌, ◌/◌, ◌^◌, ◌≤◌, ◌<◌}
use native.Mathlib.Nat.{mul-le-mul_right}
use native.Mathlib.Omega.{arith}
use lib.Dec.{T}
use lib.Ieee.{Float, binary64, lt}
use Rattle.exact.specs.Numbers.{nought, Number, steps, in_steps}
use Rattle.exact.proofs.Zero.{positive_is}
use Rattle.root.specs.Root.{nearest_root, Nearest}
use Rattle.root.proofs.Whole.{square_le, leading, pow_next, pow_double}
use Rattle.root.proofs.Shape.{Shape}
use Rattle.root.proofs.Cases.{shape}
use Rattle.root.proofs.Nearest.{is_nearest}
use Rattle.root.proofs.Theorems.{one_nearest}

-- M * (B * B) is the radicand, and R the root
squares : (s M B R : ℕ) → 2 ^ 53 ≤ s → M < (s + 1) * (s + 1) → s * B ≤ R → 1024 * 1024 * (M * (B * B)) ≤ 1025 * 1025 * (R * R)
squares s M B R least high low =
    let near : 1024 * (s + 1) ≤ 1025 * s = omega arith in
    let above : 1024 * 1024 * M ≤ 1025 * 1025 * (s * s) = omega (arith, square_le near) in
    omega (arith, mul-le-mul_right (B * B) above, square_le low)

no_less : (s B : ℕ) → s * B ≤ (s + 1) / 2 * (2 * B)
no_less s B = let half : s ≤ (s + 1) / 2 * 2 = omega arith in omega (arith, mul-le-mul_right B half)

of_shape : (x r : Float) → Shape x r → 1024 * 1024 * (steps binary64 x * in_steps 0) ≤ 1025 * 1025 * (steps binary64 r * steps binary64 r)
unfolding in_steps
of_shape x r a =
    let B = 2 ^ a.h in
    rw (a.form.same ∙ ap (λ (n : ℕ). a.v * 2 ^ 54 * n) (pow_double a.h))
    (squares a.s (a.v * 2 ^ 54) B (steps binary64 r) (leading a.v a.s a.form.least a.whole) a.whole.high (rw (a.is, pow_next a.h) (no_less a.s B)))

pub square_of_root : (x r : Float) → Number binary64 x → T (lt nought x) → Nearest x r → 1024 * 1024 * (steps binary64 x * in_steps 0) ≤ 1025 * 1025 * (steps binary64 r * steps binary64 r)
square_of_root x r h p n =
    let a = shape x h ((positive_is x h).0 p) in
    of_shape x r (subst (Shape x) (one_nearest x (nearest_root x) r (is_nearest x (nearest_root x) a) n) a)
