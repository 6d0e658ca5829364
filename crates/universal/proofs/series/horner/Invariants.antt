-- What lasts over the turns of `universal::series::horner`: what is left is the front of the table, and to work it comes to the whole.
use mathlib.Core.Path.{◌≡◌}
use mathlib.Core.List.{List}
use Prim.Native.Nat.{ℕ, ◌<◌}
use lib.ListN.{length, get_or}
use lib.Ieee.{Float, nan}
use Rattle.universal.specs.Series.{worked_from, worked}
use Rattle.universal.proofs.series.horner.Given as goal

abbrev pub Front : (table left : List Float) → Type 0
Front table left = (k : ℕ) → k < length left → get_or left k nan ≡ get_or table k nan

abbrev pub invariant-loop-c : goal.invariant-loop-c
invariant-loop-c l = let left = l.c-iterator.iter.rest.now in
    Front l.fn.table left × (worked_from l.fn.table l.z (length left) l.sum ≡ worked l.fn.table l.z)
