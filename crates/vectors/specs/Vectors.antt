-- Vectors by component: RULES, From the state to the scaled problem, and Unfolding. Definitions only.
use Rattle.std.specs.Prelude.{Bool, ◌&&◌, List, [], ◌∷◌, Float}
use Rattle.exact.specs.Numbers.{◌⊕◌, ◌⊗◌, ◌⊘◌, is_finite}
use Rattle.vectors.specs.declared.Vector.{Vector}

abbrev pub all_finite : Vector → Bool
all_finite a = is_finite a.x && is_finite a.y && is_finite a.z

-- k*a; a product of two numbers is the same in either order
abbrev pub multiple : Float → Vector → Vector
multiple k a = record { x = k ⊗ a.x; y = k ⊗ a.y; z = k ⊗ a.z }

-- a*f + b*g
abbrev pub combined : Vector → Float → Vector → Float → Vector
combined a f b g = record { x = a.x ⊗ f ⊕ b.x ⊗ g; y = a.y ⊗ f ⊕ b.y ⊗ g; z = a.z ⊗ f ⊕ b.z ⊗ g }

-- the dot of two vectors: three products, added in order
abbrev pub dot : Vector → Vector → Float
dot a b = a.x ⊗ b.x ⊕ a.y ⊗ b.y ⊕ a.z ⊗ b.z

-- a/k, by component
abbrev pub over : Vector → Float → Vector
over a k = record { x = a.x ⊘ k; y = a.y ⊘ k; z = a.z ⊘ k }

-- a number, two vectors and a number, by their places from 0 on: mu, r, v and dt or the angle of a problem; mu, r1, r2 and dt of a transfer
abbrev pub numbers_given : (mu : Float) (a b : Vector) (last : Float) → List Float
numbers_given mu a b last = mu ∷ a.x ∷ a.y ∷ a.z ∷ b.x ∷ b.y ∷ b.z ∷ last ∷ []
