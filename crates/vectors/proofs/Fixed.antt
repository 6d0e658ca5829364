-- Each public function's contract has one result: `Learnt` is the contract itself, as Rattle reads it off the source for callers (coincidence's `Fixes`).
use mathlib.Core.Path.{refl}
use Rattle.coincidence.specs.Coincidence.{Fixes}
use Rattle.coincidence.proofs.Laws.{one_result}
use Rattle.vectors.proofs.all_finite.Reads as all-finite
use Rattle.vectors.proofs.all_finite.Kinds as all-finite-kinds
use Rattle.vectors.proofs.scaled.Reads as scaled
use Rattle.vectors.proofs.scaled.Kinds as scaled-kinds
use Rattle.vectors.proofs.sum.Reads as sum
use Rattle.vectors.proofs.sum.Kinds as sum-kinds
use Rattle.vectors.proofs.product.Reads as product
use Rattle.vectors.proofs.product.Kinds as product-kinds
use Rattle.vectors.proofs.divided.Reads as divided
use Rattle.vectors.proofs.divided.Kinds as divided-kinds

pub all_finite_fixes : Fixes 0 all-finite-kinds.ps all-finite-kinds.r all-finite.Learnt
all_finite_fixes κs a x y v w p q = (one_result p q, refl)

pub scaled_fixes : Fixes 0 scaled-kinds.ps scaled-kinds.r scaled.Learnt
scaled_fixes κs a x y v w p q = (one_result p q, refl)

pub sum_fixes : Fixes 0 sum-kinds.ps sum-kinds.r sum.Learnt
sum_fixes κs a x y v w p q = (one_result p q, refl)

pub product_fixes : Fixes 0 product-kinds.ps product-kinds.r product.Learnt
product_fixes κs a x y v w p q = (one_result p q, refl)

pub divided_fixes : Fixes 0 divided-kinds.ps divided-kinds.r divided.Learnt
divided_fixes κs a x y v w p q = (one_result p q, refl)
