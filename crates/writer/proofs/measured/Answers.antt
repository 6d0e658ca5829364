-- `writer::measured` meets its contract: after each turn, what is left with the length so far comes to what the whole comes to.
use mathlib.Core.Path.{◌≡◌, sym, ◌∙◌}
use native.Mathlib.Omega.{arith}
use lib.ListN.{get_or}
use Rattle.rows.specs.Rows.{pass}
use Rattle.card.specs.Fields.{kind_of}
use Rattle.card.proofs.Sizes.{size_most}
use Rattle.layout.proofs.Refusals.{with_reason, passed_on}
use Rattle.writer.proofs.Measuring.{set_out, no_kind, ends_inside, walk_on, some_over, all_read}
use Rattle.writer.proofs.measured.Goals as goal
use Rattle.writer.proofs.measured.Goals.{After-packed-size}

pub loop-number-init : goal.loop-number-init
loop-number-init c = set_out c.args.version c.args.kinds.now c.args.fields.now c.requires

pub returns-in_err-kind : goal.returns-in_err-kind
returns-in_err-kind c = passed_on c.from_residual.result _ c.from_residual.ensures.1 ∙ no_kind c.loop-number.invariant _ (omega arith) (sym (with_reason c.kind_of.result _ c.in_err-kind.ensures.value c.kind_of.ensures))

-- the kind that is named
known : (c : After-packed-size) → kind_of (get_or c.args.kinds.now c.loop-number.number-index 0) ≡ pass c.in_ok-kind.kind
known c = sym (with_reason c.kind_of.result _ c.in_ok-kind.ensures.value c.kind_of.ensures)

pub returns-then-fields-at : goal.returns-then-fields-at
returns-then-fields-at c = ends_inside c.loop-number.invariant c.in_ok-kind.kind (omega arith) (known (goal.at.returns-then-fields-at c).After-packed-size) (omega (arith, c.packed-size.ensures))

pub loop-number-preserved : goal.loop-number-preserved
loop-number-preserved c = rw (c.packed-size.ensures, c.size-end.ensures) (walk_on c.loop-number.invariant c.in_ok-kind.kind (omega arith) (known (goal.at.loop-number-preserved c).After-packed-size) (omega (arith, c.packed-size.ensures)))

pub overflow_add-end-in-loop-number : goal.overflow_add-end-in-loop-number
overflow_add-end-in-loop-number c = omega (arith, c.loop-number.invariant.most, c.size-end.ensures, size_most c.args.version c.in_ok-kind.kind)

pub returns-then-at-fields : goal.returns-then-at-fields
returns-then-at-fields c = some_over c.loop-number.invariant (omega arith) c.if-at-fields.true

pub returns : goal.returns
returns c = all_read c.loop-number.invariant (omega arith) c.if-at-fields.false
