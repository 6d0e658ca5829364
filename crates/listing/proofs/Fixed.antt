-- The public function's contract has one result: `Learnt` is the contract itself, as Rattle reads it off the source for callers (coincidence's `Fixes`).
use mathlib.Core.Path.{ap}
use Rattle.coincidence.specs.Coincidence.{Fixes}
use Rattle.coincidence.proofs.Laws.{one_result}
use Rattle.listing.proofs.listing.Reads as listing
use Rattle.listing.proofs.listing.Kinds as listing-kinds

pub listing_fixes : Fixes 2 listing-kinds.ps listing-kinds.r listing.Learnt
listing_fixes κs a x y v w p q = (one_result p.0 q.0, ap (λ l. (tt, (l, tt))) (one_result p.1 q.1))
