-- What lasts over the turns of `search::searched`, and why they end.
use Prim.Native.Nat.{◌-◌}
use Rattle.search.proofs.Turns.{Left}
use Rattle.search.proofs.searched.Given as goal

abbrev pub invariant-search : goal.invariant-search
invariant-search g l = Left (g.S.Sought.time_at l.o) l.t l.limit l.initial.bracket l.bracket l.x l.count

abbrev pub decreases-search : goal.decreases-search
decreases-search g l = l.limit - l.count
