-- The numbers with which a root and a measure refuse are those that the caller gave.
use Prim.Native.Nat.{ℕ}
use lib.Ieee.{Float}
use Rattle.root.specs.Said as root
use Rattle.root.specs.Root.{root_of}
use Rattle.rows.proofs.Laws.{Refuses, passes, refuses}
use Rattle.units.specs.Units.{Measured, measured, unusable, root_refused, from_root, rooted, numbered}

from_root_lem : {P : ℕ → Type 0} (j : ℕ) (a : root.Said) → P j → Refuses P (from_root j a)
from_root_lem j (root.root x) p = passes
from_root_lem j (root.refused k) p = refuses p

pub root_refuses : {P : ℕ → Type 0} (j : ℕ) (x : Float) → P j → Refuses P (rooted j x)
unfolding rooted
root_refuses j x p = from_root_lem j (root_of x) p

pub measure_refuses : {A : Type 0} {P : ℕ → Type 0} (k j : ℕ) (m : Measured A) → P k → P j → Refuses P (numbered k j m)
measure_refuses k j (measured x) p q = passes
measure_refuses k j unusable p q = refuses p
measure_refuses k j root_refused p q = refuses q
