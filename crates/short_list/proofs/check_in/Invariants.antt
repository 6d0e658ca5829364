-- What lasts over the turns of `short_list::check_in`: what the page lends.
use mathlib.Core.Path.{◌≡◌}
use Rattle.short_list.proofs.check_in.Given as goal

abbrev pub invariant-loop-place : goal.invariant-loop-place
invariant-loop-place g l = l.page.bytes.ghost_name ≡ l.initial.page.bytes.ghost_name
