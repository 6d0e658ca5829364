-- `listing::card_lines` meets its contract: after each turn, the lines of the cards that were met stand one behind the other. No card is without a kind, since the deck is accepted.
use mathlib.Core.Path.{◌≡◌, sym, ap, ◌∙◌}
use Prim.Native.Nat.{ℕ, ◌+◌, ◌-◌, ◌≤◌}
use native.Mathlib.Omega.{arith}
use lib.ListN.{length, take, drop, get_or}
use Rattle.std.specs.Prelude.{Option}
use Rattle.pieces.specs.Page.{written}
use Rattle.tag.specs.declared.Tag.{Tag}
use Rattle.card.specs.Fields.{size_of, tag_of}
use Rattle.contents.proofs.Meeting.{never_unknown, inside}
use Rattle.item.specs.Item.{placed_line}
use Rattle.listing.proofs.Showing.{judged_in, start, turn, shown}
use Rattle.listing.proofs.card_lines.Goals as goal
use Rattle.listing.proofs.card_lines.Goals.{After-size}

pub loop-i-init : goal.loop-i-init
loop-i-init c = start c.args.version c.args.deck.now c.args.count c.args.page.now (judged_in c.args.version c.args.deck.now c.args.verdicts.now c.args.count c.requires.0 c.requires.1) c.requires.2

pub returns-in_default : goal.returns-in_default
returns-in_default c = λ d e. absurd (never_unknown c.loop-i.invariant.walk 34 c.loop-i-test.true (sym c.in_default.ensures))

-- the body of the kind that is named is inside
ends : (c : After-size) → c.loop-i.at + c.size.result ≤ length c.args.deck.now
ends c = rw c.size.ensures (inside c.loop-i.invariant.walk c.in-Some.kind c.loop-i-test.true (sym c.in-Some.ensures))

pub loop-i-preserved : goal.loop-i-preserved
loop-i-preserved c = let turning = c.loop-i in
    let kind = c.in-Some.kind in
    let version = c.args.version in
    let deck = c.args.deck.now in
    let part : turning.at + c.size.result - turning.at ≡ size_of version kind = omega (arith, c.size.ensures) in
    let tag_is = c.tag-tag.ensures ∙ ap (λ (n : ℕ). tag_of version kind (take n (drop turning.at deck))) part in
    let line-is = ap (λ (tag : Option Tag). written turning.page (placed_line (turning.i + 1) kind tag (get_or c.args.verdicts.now turning.i 0))) tag_is in
    rw c.size.ensures (turn turning.invariant c.args.verdicts.now c.requires.0 kind c.loop-i-test.true (sym c.in-Some.ensures) (c.line.ensures ∙ line-is))

pub returns : goal.returns
returns c = shown c.loop-i.invariant c.loop-i-test.false

pub overflow_add-next : goal.overflow_add-next
overflow_add-next c = omega (arith, ends (goal.at.overflow_add-next c).After-size)

pub slice_bounds-tag-end : goal.slice_bounds-tag-end
slice_bounds-tag-end c = ends (goal.at.slice_bounds-tag-end c).After-size
