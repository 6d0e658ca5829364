-- The numbers given: RULES, Refusal numbers, 1 and 101 to 108. The radius of a position and the unit of time: RULES, From the state to the scaled
-- problem 1 to 3. A transfer shares both. What is not finite, not usable, or a root that is refused, has no number here: each caller gives it its
-- own. Definitions only.
use Rattle.std.specs.Prelude.{ℕ, ◌+◌, Bool, cond, ◌&&◌, List, [], ◌∷◌, Float}
use Rattle.std.specs.Float.Ieee.{ne}
use Rattle.exact.specs.Numbers.{◌⊗◌, ◌⊘◌, nought, is_finite}
use Rattle.root.specs.Said as root
use Rattle.root.specs.Root.{root_of}
use Rattle.rows.specs.Rows.{Checked, pass, refuse, must}
use Rattle.vectors.specs.declared.Vector.{Vector}
use Rattle.vectors.specs.Vectors.{dot, numbers_given}

-- a test for each number in its turn: it is finite, or the row refuses with the number that the caller gives to its place
unfoldable pub finite_from : (number : ℕ → ℕ) (place : ℕ) → List Float → Checked (Unit {0})
finite_from number place [] = pass tt
finite_from number place (x ∷ rest) = must (is_finite x) (number place) (finite_from number (place + 1) rest)

-- refusal 1, or 101 to 108: the first of the eight that is not finite
abbrev pub given_tested : (number : ℕ → ℕ) (mu : Float) (a b : Vector) (last : Float) → Checked (Unit {0})
given_tested number mu a b last = finite_from number 0 (numbers_given mu a b last)

-- a place as its own number
abbrev pub by_place : ℕ → ℕ
by_place place = place

-- neither zero nor NaN nor infinite
abbrev pub is_usable : Float → Bool
is_usable x = is_finite x && ne x nought

-- what is measured: a value; or something on the way is not usable; or a root on the way was refused
pub data Measured (A : Type 0) : Type 0 where
  measured : A → Measured A
  unusable : Measured A
  root_refused : Measured A

abbrev pub after_root : {A : Type 0} → root.Said → (Float → Measured A) → Measured A
after_root (root.root x) rest = rest x
after_root (root.refused k) rest = root_refused

-- 1: r0 = root(r·r), where r·r and r0 are usable
unfoldable pub radius_of : Vector → Measured Float
radius_of r =
    cond (is_usable (dot r r))
    (after_root (root_of (dot r r)) (λ r0. cond (is_usable r0) (measured r0) unusable))
    unusable

-- 2 and 3: f1 = root(r0/mu); f4 = r0*f1, where r0/mu, before its root, and f1 and f4 are usable
unfoldable pub unit_of : (mu r0 : Float) → Measured (Float × Float)
unit_of mu r0 =
    cond (is_usable (r0 ⊘ mu))
    (after_root (root_of (r0 ⊘ mu)) (λ f1. cond (is_usable f1 && is_usable (r0 ⊗ f1)) (measured (f1, r0 ⊗ f1)) unusable))
    unusable

-- a root in a row of tests: j is the number with which the row refuses where the root does
abbrev pub from_root : (j : ℕ) → root.Said → Checked Float
from_root j (root.root x) = pass x
from_root j (root.refused k) = refuse j

unfoldable pub rooted : (j : ℕ) → Float → Checked Float
rooted j x = from_root j (root_of x)

-- what was measured in a row of tests: k is the number of what is not usable, j that of a refused root
abbrev pub numbered : {A : Type 0} (k j : ℕ) → Measured A → Checked A
numbered k j (measured x) = pass x
numbered k j unusable = refuse k
numbered k j root_refused = refuse j
