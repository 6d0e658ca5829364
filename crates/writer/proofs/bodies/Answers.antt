-- `writer::bodies` meets its contract: after each turn, the bodies of the cards that are left, written behind what stands, are those of all.
use mathlib.Core.Path.{◌≡◌, sym, ap, ◌∙◌}
use Prim.Native.Nat.{ℕ, ◌+◌, ◌-◌, ◌≤◌}
use native.Mathlib.Omega.{arith}
use lib.ListN.{length, take, drop}
use Rattle.pieces.specs.Page.{written}
use Rattle.card.specs.Made.{body_from}
use Rattle.writer.proofs.Laying.{begin, never_unknown, room, turn, laid}
use Rattle.writer.proofs.bodies.Goals as goal
use Rattle.writer.proofs.bodies.Goals.{After-packed}

pub loop-number-init : goal.loop-number-init
loop-number-init c = begin c.args.version c.args.kinds.now c.args.fields.now c.args.page.now c.requires.0 c.requires.1

pub returns-in_default : goal.returns-in_default
returns-in_default c = absurd (never_unknown c.loop-number.invariant 34 (omega arith) (sym c.in_default.ensures))

-- the fields are inside
inside : (c : After-packed) → c.loop-number.at + c.packed.result ≤ length c.args.fields.now
inside c = rw c.packed.ensures (room c.loop-number.invariant c.in-Some.kind (omega arith) (sym c.in-Some.ensures))

-- the part that is written
part : (at n : ℕ) → at + n - at ≡ n
part at n = omega arith

pub loop-number-preserved : goal.loop-number-preserved
loop-number-preserved c = let named-part = ap (λ (n : ℕ). written c.loop-number.page (body_from c.in-Some.kind (take n (drop c.loop-number.at c.args.fields.now)))) (part c.loop-number.at c.packed.result ∙ c.packed.ensures) in
    rw c.packed.ensures (turn c.loop-number.invariant c.in-Some.kind (omega arith) (sym c.in-Some.ensures) (c.put_body.ensures ∙ named-part))

pub returns : goal.returns
returns c = laid c.loop-number.invariant (omega arith)

pub overflow_add-next : goal.overflow_add-next
overflow_add-next c = omega (arith, inside (goal.at.overflow_add-next c).After-packed)

pub slice_bounds-put_body-end : goal.slice_bounds-put_body-end
slice_bounds-put_body-end c = inside (goal.at.slice_bounds-put_body-end c).After-packed
