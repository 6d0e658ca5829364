-- `search::searched` meets its contract: after each turn, the hunt that is still to be made ends as the whole search does (`Left`). Each way out
-- of the loop, and the way round it, is one law of a turn.
use mathlib.Core.Path.{sym, ap, ◌∙◌}
use native.Mathlib.Omega.{arith}
use Rattle.search.specs.Said.{said}
use Rattle.search.proofs.Turns.{begins, ends_lost, ends_solved, ends_spent, ends_closed, goes_on}
use Rattle.search.proofs.searched.Goals as goal

pub search-init : goal.search-init
search-init g c = begins c.first-x.ensures

pub returns-then-not-finite : goal.returns-then-not-finite
returns-then-not-finite g c = ends_lost c.search.invariant c.time_at-time.ensures (sym c.finite.ensures ∙ c.if-not-finite.true)

pub returns-then-near : goal.returns-then-near
returns-then-near g c = ends_solved c.search.invariant c.time_at-time.ensures (sym c.finite.ensures ∙ c.if-not-finite.false) (sym c.near.ensures ∙ c.if-near.true)

pub returns-then-limit-count : goal.returns-then-limit-count
returns-then-limit-count g c = ends_spent c.search.invariant c.time_at-time.ensures (sym c.finite.ensures ∙ c.if-not-finite.false) (sym c.near.ensures ∙ c.if-near.false) c.narrowed-bracket.ensures c.if-limit-count.true

pub returns-in_default : goal.returns-in_default
returns-in_default g c = ends_closed c.search.invariant c.time_at-time.ensures (sym c.finite.ensures ∙ c.if-not-finite.false) (sym c.near.ensures ∙ c.if-near.false) c.narrowed-bracket.ensures c.if-limit-count.false (sym (ap said c.in_default.is) ∙ c.next.ensures)

pub search-preserved : goal.search-preserved
search-preserved g c = goes_on c.search.invariant c.time_at-time.ensures (sym c.finite.ensures ∙ c.if-not-finite.false) (sym c.near.ensures ∙ c.if-near.false) c.narrowed-bracket.ensures c.if-limit-count.false (sym (ap said c.in-Some.is) ∙ c.next.ensures)
