-- How many bytes object and epoch can have, and the numbers of the versions.
use mathlib.Core.Path.{◌≡◌, refl, ap, ◌∙◌}
use mathlib.Core.Bool.{Bool, true, false, cond, true≢false}
use Prim.Native.Nat.{ℕ, ◌≤◌, ◌<◌, ◌^◌}
use native.Mathlib.Omega.{arith}
use borrow.Author.Tests.{eqb-true}
use lib.Dec.{eqb}
use Rattle.rows.specs.Rows.{pass, refuse}
use Rattle.rows.proofs.Laws.{pass_once}
use Rattle.version.specs.declared.Version.{Version}
use Rattle.version.specs.declared.Version.TheVariants as version
use Rattle.version.specs.Version.{version_of, version_number, tag_size, largest_tag}

pub tag_most : (v : Version) → tag_size v ≤ largest_tag
unfolding tag_size
tag_most version.One = omega arith
tag_most version.Two = omega arith

-- the number of a version names it, and fits in four bytes
pub version_of_number : (v : Version) → version_of (version_number v) ≡ pass v
unfolding version_of version_number
version_of_number version.One = refl
version_of_number version.Two = refl

pub version_small : (v : Version) → version_number v < 256 ^ 4
unfolding version_number
version_small version.One = omega arith
version_small version.Two = omega arith

-- and a number that names a version is that version's
pub number_of_version : (n : ℕ) (v : Version) → version_of n ≡ pass v → n ≡ version_number v
unfolding version_of version_number
number_of_version n v h = first (eqb n 1) refl
  where
    second : (b : Bool) → eqb n 2 ≡ b → cond b (pass version.Two) (refuse 31) ≡ pass v → n ≡ version_number v
    second true e h = eqb-true n 2 e ∙ ap version_number (pass_once h)
    second false e h = absurd (true≢false cc)

    first : (b : Bool) → eqb n 1 ≡ b → n ≡ version_number v
    first true e = eqb-true n 1 e ∙ ap version_number (pass_once (rw e at h))
    first false e = second (eqb n 2) refl (rw e at h)
