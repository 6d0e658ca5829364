-- A NaN goes through every operation.
use mathlib.Core.Path.{◌≡◌, refl}
use lib.Ieee.{Float, nan, inf, fin, add, sub, mul, div}
use Rattle.exact.specs.Numbers.{◌⊕◌, ◌⊖◌, ◌⊗◌, ◌⊘◌}

pub plus_nan : (x : Float) → x ⊕ nan ≡ nan
unfolding add
plus_nan nan = refl
plus_nan (inf s) = refl
plus_nan (fin s m e) = refl

pub minus_nan : (x : Float) → x ⊖ nan ≡ nan
unfolding sub add
minus_nan nan = refl
minus_nan (inf s) = refl
minus_nan (fin s m e) = refl

pub times_nan : (x : Float) → x ⊗ nan ≡ nan
unfolding mul
times_nan nan = refl
times_nan (inf s) = refl
times_nan (fin s m e) = refl

pub over_nan : (x : Float) → x ⊘ nan ≡ nan
unfolding div
over_nan nan = refl
over_nan (inf s) = refl
over_nan (fin s m e) = refl
