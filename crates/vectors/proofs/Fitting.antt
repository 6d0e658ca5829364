-- What fits binary64, NaN and infinities included: the numbers of a vector.
use lib.Dec.{T}
use lib.Ieee.{Float, binary64, fits}
use lib.Ieee.Fits.{add-fits, div-fits}
use Rattle.exact.specs.Numbers.{◌⊗◌}
use Rattle.vectors.specs.declared.Vector.{Vector}
use Rattle.vectors.specs.Vectors.{combined, over}

abbrev pub VectorFits : Vector → Type 0
VectorFits a = T (fits binary64 a.x) × T (fits binary64 a.y) × T (fits binary64 a.z)

-- each number of these is the result of an operation
pub combined_fits : (a : Vector) (f : Float) (b : Vector) (g : Float) → VectorFits (combined a f b g)
combined_fits a f b g = (add-fits binary64 (a.x ⊗ f) (b.x ⊗ g), add-fits binary64 (a.y ⊗ f) (b.y ⊗ g), add-fits binary64 (a.z ⊗ f) (b.z ⊗ g))

pub over_fits : (a : Vector) (k : Float) → VectorFits (over a k)
over_fits a k = (div-fits binary64 a.x k, div-fits binary64 a.y k, div-fits binary64 a.z k)
