-- `apart::list_kinds` meets its contract: after each turn, the kinds of the cards that were met stand at the front of the list.
use mathlib.Core.Path.{sym}
use native.Mathlib.Omega.{arith}
use Rattle.contents.proofs.Meeting.{never_unknown}
use Rattle.apart.proofs.Turns.{none_listed, list_on, all_listed}
use Rattle.apart.proofs.list_kinds.Goals as goal

pub loop-i-init : goal.loop-i-init
loop-i-init c = (c.requires.0.0, none_listed c.requires.0.0 c.args.deck.now c.args.count c.args.kinds.now c.requires.0.1 c.requires.1)

pub returns-in_default : goal.returns-in_default
returns-in_default c = λ d e. absurd (never_unknown c.loop-i.invariant.1.walk 34 (omega arith) (sym c.in_default.ensures))

pub loop-i-preserved : goal.loop-i-preserved
loop-i-preserved c = rw c.number.ensures (c.loop-i.invariant.0, list_on c.loop-i.invariant.1 c.in-Some.kind (omega arith) (sym c.in-Some.ensures))

pub returns : goal.returns
returns c = all_listed c.loop-i.invariant.1 (omega arith)
