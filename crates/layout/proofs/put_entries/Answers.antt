-- `layout::put_entries` meets its contract: after each turn, the entries of the kinds that are left, written behind what stands, are those of all.
use mathlib.Core.Path.{sym}
use native.Mathlib.Omega.{arith}
use Rattle.card.proofs.Sizes.{size_most}
use Rattle.layout.proofs.Entering.{begin, turn, no_kind, entered}
use Rattle.layout.proofs.put_entries.Goals as goal

pub loop-number-init : goal.loop-number-init
loop-number-init c = begin c.args.version c.args.kinds.now c.args.page.now c.requires.1

pub returns-in_default : goal.returns-in_default
returns-in_default c = no_kind c.loop-number.invariant 34 (omega arith) (sym c.in_default.ensures)

pub overflow_add-offset-in-loop-number : goal.overflow_add-offset-in-loop-number
overflow_add-offset-in-loop-number c = omega (arith, c.loop-number.invariant.most, c.size-offset.ensures, size_most c.args.version c.in-Some.kind)

pub loop-number-preserved : goal.loop-number-preserved
loop-number-preserved c = rw c.size-offset.ensures (turn c.loop-number.invariant c.in-Some.kind (omega arith) (sym c.in-Some.ensures) c.put_entry.ensures)

pub returns : goal.returns
returns c = entered c.loop-number.invariant (omega arith)
