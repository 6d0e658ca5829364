-- `deck::judged` meets its contract: after each turn, the cards that are left, tallied and written from there on, give the tally and the list
-- of the whole deck. No entry is refused, since the contents passed.
use mathlib.Core.Path.{◌≡◌, sym, ap, subst, ◌∙◌}
use Prim.Native.Nat.{◌+◌, ◌-◌, ◌≤◌, ◌<◌}
use native.Mathlib.Omega.{arith}
use lib.ListN.{length, take, drop, length-drop}
use lib.Seq.{length-take-le}
use Rattle.rows.specs.Rows.{pass}
use Rattle.contents.specs.Contents.{entry_at, entry_in}
use Rattle.contents.proofs.Cards.{entry_inside}
use Rattle.ruling.specs.Said.{reason_number, said}
use Rattle.deck.specs.declared.tally.Running.{Running}
use Rattle.deck.proofs.Going.{Going, some_left, start, never_refused, turn, answer_is, list_is}
use Rattle.deck.proofs.judged.Goals as goal
use Rattle.deck.proofs.judged.Goals.{After-size}

pub loop-i-init : goal.loop-i-init
loop-i-init c = subst (λ (n : Running). Going c.args.version c.args.deck.now c.args.count c.args.verdicts.now c.args.verdicts.now 0 (entry_at c.args.count) n) (sym c.none-running.ensures) (start c.args.version c.args.deck.now c.args.count c.args.verdicts.now c.requires.passes)

pub shape_of-verdicts-in_err-kind : goal.shape_of-verdicts-in_err-kind
shape_of-verdicts-in_err-kind c = c.loop-i.invariant.as_long

pub returns-in_err-kind : goal.returns-in_err-kind
returns-in_err-kind c = absurd (never_refused c.loop-i.invariant (reason_number c.in_err-kind.field-0.0) (omega arith) (sym c.in_err-kind.ensures))

-- the entry passed, its body is inside, and the list has a place for its verdict
passed : (c : After-size) → entry_in c.args.version c.args.deck.now c.loop-i.i c.loop-i.at ≡ pass c.in_ok-kind.kind
passed c = sym c.in_ok-kind.ensures

room : (c : After-size) → c.loop-i.at + c.size.result ≤ length c.args.deck.now
room c = rw c.size.ensures (entry_inside c.args.version c.args.deck.now c.loop-i.i c.loop-i.at c.in_ok-kind.kind (passed c))

place : (c : After-size) → c.loop-i.i < length c.loop-i.verdicts
place c = omega (arith, c.loop-i.invariant.as_long, c.requires.count_le_most_cards.1)

pub overflow_add-end : goal.overflow_add-end
overflow_add-end c = omega (arith, room (goal.at.overflow_add-end c).After-size)

pub offset_bounds-verdicts-i : goal.offset_bounds-verdicts-i
offset_bounds-verdicts-i c = omega (arith, c.requires.count_le_most_cards.0)

pub slice_bounds-judge_into-count : goal.slice_bounds-judge_into-count
slice_bounds-judge_into-count c = omega (arith, place (goal.at.slice_bounds-judge_into-count c).After-size)

pub slice_bounds-judge_into-start : goal.slice_bounds-judge_into-start
slice_bounds-judge_into-start c = omega (arith, place (goal.at.slice_bounds-judge_into-start c).After-size)

pub slice_bounds-judge_into-end-in-loop-i : goal.slice_bounds-judge_into-end-in-loop-i
slice_bounds-judge_into-end-in-loop-i c = omega (arith, room (goal.at.slice_bounds-judge_into-end-in-loop-i c).After-size)

pub judge_into-verdict-requires : goal.judge_into-verdict-requires
judge_into-verdict-requires c = let at = c.loop-i.at in
    let size = c.size.result in
    let deck = c.args.deck.now in
    let whole : length (take (at + size - at) (drop at deck)) ≡ at + size - at = length-take-le (at + size - at) (drop at deck) (omega (arith, length-drop at deck, room (goal.at.judge_into-verdict-requires c).After-size)) in
    (some_left c.loop-i.i c.loop-i.verdicts (place (goal.at.judge_into-verdict-requires c).After-size), omega (arith, whole, c.size.ensures))

pub with-running-requires : goal.with-running-requires
with-running-requires c = omega (arith, c.loop-i.invariant.total, c.requires.count_le_most_cards.0)

pub loop-i-preserved : goal.loop-i-preserved
loop-i-preserved c = turn c.loop-i.invariant c.in_ok-kind.kind c.size.result (said c.judge_into-verdict.result) c.judge_into-verdict.new.verdicts c.with-running.result (omega arith) (place (goal.at.loop-i-preserved c).After-size) (passed (goal.at.loop-i-preserved c).After-size) c.size.ensures c.judge_into-verdict.ensures.result_value c.judge_into-verdict.ensures.verdicts_after c.with-running.ensures

pub shape_of-verdicts : goal.shape_of-verdicts
shape_of-verdicts c = c.loop-i.invariant.as_long

pub returns : goal.returns
returns c = record { result_value = ap pass c.closed.ensures ∙ answer_is c.loop-i.invariant (omega arith); verdicts_after = list_is c.loop-i.invariant (omega arith) c.requires.count_le_most_cards.1 }
