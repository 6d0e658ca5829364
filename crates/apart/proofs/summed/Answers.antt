-- `apart::summed` meets its contract: after each turn, the sum is that of the cards that were met. No card is without a kind, since the deck is
-- accepted.
use mathlib.Core.Path.{sym}
use native.Mathlib.Omega.{arith}
use Rattle.card.proofs.Packed.{packed_most}
use Rattle.contents.proofs.Meeting.{never_unknown}
use Rattle.apart.proofs.Turns.{none_summed, sum_on, all_summed}
use Rattle.apart.proofs.summed.Goals as goal

pub loop-i-init : goal.loop-i-init
loop-i-init c = none_summed c.args.version c.args.deck.now c.args.count c.requires

pub returns-in_default : goal.returns-in_default
returns-in_default c = λ d e. absurd (never_unknown c.loop-i.invariant.walk 34 (omega arith) (sym c.in_default.ensures))

pub overflow_add-sum : goal.overflow_add-sum
overflow_add-sum c = omega (arith, c.loop-i.invariant.most, c.packed-sum.ensures, packed_most c.args.version c.in-Some.kind)

pub loop-i-preserved : goal.loop-i-preserved
loop-i-preserved c = rw c.packed-sum.ensures (sum_on c.loop-i.invariant c.in-Some.kind (omega arith) (sym c.in-Some.ensures))

pub returns : goal.returns
returns c = all_summed c.loop-i.invariant (omega arith)
