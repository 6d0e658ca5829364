-- `apart::put_all` meets its contract: after each turn, the fields of the cards that were met stand one behind the other.
use mathlib.Core.Path.{◌≡◌, sym, ap, ◌∙◌}
use Prim.Native.Nat.{ℕ, ◌+◌, ◌-◌, ◌≤◌}
use native.Mathlib.Omega.{arith}
use lib.ListN.{length, take, drop}
use Rattle.pieces.specs.Page.{written}
use Rattle.card.specs.Fields.{size_of}
use Rattle.card.specs.Made.{fields_in}
use Rattle.contents.proofs.Meeting.{never_unknown, inside, whole_body}
use Rattle.apart.proofs.Turns.{none_put, put_on, all_put}
use Rattle.apart.proofs.put_all.Goals as goal
use Rattle.apart.proofs.put_all.Goals.{After-size}

pub loop-i-init : goal.loop-i-init
loop-i-init c = none_put c.args.version c.args.deck.now c.args.count c.args.page.now c.requires.0 c.requires.1

pub returns-in_default : goal.returns-in_default
returns-in_default c = λ d e. absurd (never_unknown c.loop-i.invariant.walk 34 (omega arith) (sym c.in_default.ensures))

-- the body is inside
ends : (c : After-size) → c.loop-i.at + c.size.result ≤ length c.args.deck.now
ends c = rw c.size.ensures (inside c.loop-i.invariant.walk c.in-Some.kind (omega arith) (sym c.in-Some.ensures))

-- the part that is its body
part : (c : After-size) → c.loop-i.at + c.size.result - c.loop-i.at ≡ size_of c.args.version c.in-Some.kind
part c = omega (arith, c.size.ensures)

pub put_fields-requires : goal.put_fields-requires
put_fields-requires c =
    ap (λ (n : ℕ). length (take n (drop c.loop-i.at c.args.deck.now))) (part (goal.at.put_fields-requires c).After-size) ∙ whole_body c.loop-i.invariant.walk c.in-Some.kind (omega arith) (sym c.in-Some.ensures)

pub loop-i-preserved : goal.loop-i-preserved
loop-i-preserved c = let body_is = ap (λ (n : ℕ). written c.loop-i.page (fields_in c.args.version c.in-Some.kind (take n (drop c.loop-i.at c.args.deck.now)))) (part (goal.at.loop-i-preserved c).After-size) in
    rw c.size.ensures (put_on c.loop-i.invariant c.in-Some.kind (omega arith) (sym c.in-Some.ensures) (c.put_fields.ensures ∙ body_is))

pub returns : goal.returns
returns c = all_put c.loop-i.invariant (omega arith)

pub overflow_add-next : goal.overflow_add-next
overflow_add-next c = omega (arith, ends (goal.at.overflow_add-next c).After-size)

pub slice_bounds-put_fields-end : goal.slice_bounds-put_fields-end
slice_bounds-put_fields-end c = ends (goal.at.slice_bounds-put_fields-end c).After-size
