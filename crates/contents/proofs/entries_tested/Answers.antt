-- `contents::entries_tested` meets its contract: after each turn, what is left to be tested comes to what the whole comes to.
use mathlib.Core.Path.{sym, subst}
use Prim.Native.Nat.{ℕ, ◌+◌, ◌≤◌}
use native.Mathlib.Omega.{arith}
use lib.ListN.{length}
use Rattle.std.proofs.lemmas.Result.{err_from_is_err_and}
use Rattle.ruling.specs.Said.{reason_number}
use Rattle.contents.proofs.Cards.{entry_inside}
use Rattle.contents.proofs.Walking.{Walking, set_out, entry_refused, walk_on, left_over, all_read}
use Rattle.contents.proofs.entries_tested.Goals as goal

pub loop-i-init : goal.loop-i-init
loop-i-init c = set_out c.args.version c.args.deck.now c.args.count

pub returns-in_err-kind : goal.returns-in_err-kind
returns-in_err-kind c =
    let p = err_from_is_err_and c.from_residual.result c.from_residual.ensures.1 in
    rw (p.1, p.2) (entry_refused c.loop-i.invariant (reason_number c.in_err-kind.field-0.0) (omega arith) (sym c.in_err-kind.ensures))

-- the entry passed, and its body is inside
pub overflow_add-at-in-loop-i : goal.overflow_add-at-in-loop-i
overflow_add-at-in-loop-i c =
    let room : c.loop-i.at + c.size-at.result ≤ length c.args.deck.now = rw c.size-at.ensures (entry_inside c.args.version c.args.deck.now c.loop-i.i c.loop-i.at c.in_ok-kind.kind (sym c.in_ok-kind.ensures)) in
    omega (arith, room)

pub loop-i-preserved : goal.loop-i-preserved
loop-i-preserved c = subst (λ (n : ℕ). Walking c.args.version c.args.deck.now c.args.count (c.loop-i.i + 1) (c.loop-i.at + n)) (sym c.size-at.ensures) (walk_on c.loop-i.invariant c.in_ok-kind.kind (omega arith) (sym c.in_ok-kind.ensures))

pub returns-then-at-deck : goal.returns-then-at-deck
returns-then-at-deck c = left_over c.loop-i.invariant (omega arith) c.if-at-deck.true

pub returns : goal.returns
returns c = all_read c.loop-i.invariant (omega arith) c.if-at-deck.false
