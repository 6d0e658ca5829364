-- `copier::copy` meets its contract: the two lists have room for any deck, so what is refused is the deck, and what is written are its cards with
-- their spares cleared.
use mathlib.Core.Path.{sym, ap, ap₂, ◌∙◌}
use Prim.Native.Nat.{ℕ, ◌*◌}
use native.Mathlib.Omega.{arith}
use lib.ListN.{length, take, replicate}
use Rattle.card.specs.Fields.{largest_fields}
use Rattle.contents.specs.Contents.{most_cards}
use Rattle.rows.specs.Rows.{checked}
use Rattle.ruling.specs.Said.{reason_number}
use Rattle.layout.specs.Packed.{finished_deck}
use Rattle.layout.specs.Written.{length_for, buffer_after}
use Rattle.layout.proofs.Refusals.{passed_on}
use Rattle.layout.proofs.Writing.{refused_writes}
use Rattle.copier.proofs.Copying.{Listed, copy_refused, listed}
use Rattle.copier.proofs.copy.Goals as goal
use Rattle.copier.proofs.copy.Goals.{In_ok-version}

pub returns-in_err-version : goal.returns-in_err-version
returns-in_err-version c = let both = refused_writes c.args.buffer.now (copy_refused c.args.deck.now (sym (ap (checked reason_number) c.in_err-version.was) ∙ c.take.ensures.result_value) (omega arith) (omega arith)) in
    record { result_value = passed_on c.from_residual.result _ c.from_residual.ensures.1 ∙ both.0; buffer_after = both.1 }

-- what was taken
fronts : (c : In_ok-version) → Listed c.args.deck.now c.take.new.kinds c.take.new.fields c.in_ok-version.version c.in_ok-version.count c.in_ok-version.size
fronts c = listed c.args.deck.now (replicate most_cards 0) (replicate (largest_fields * most_cards) 0) c.in_ok-version.ensures.result_value c.take.ensures.kinds_after c.take.ensures.fields_after

pub returns : goal.returns
returns c = let given = ap₂ (λ (number form : ℕ). finished_deck number form (take c.in_ok-version.count c.take.new.kinds) (take c.in_ok-version.size c.take.new.fields)) c.number.ensures c.form.ensures in
    let written = given ∙ (fronts (goal.at.returns c).In_ok-version).written in
    let buffer = c.args.buffer.now in
    record { result_value = c.write.ensures.result_value ∙ ap (λ m. length_for m (length buffer)) written; buffer_after = c.write.ensures.buffer_after ∙ ap (λ m. buffer_after m buffer) written }

pub slice_bounds-kinds-end : goal.slice_bounds-kinds-end
slice_bounds-kinds-end c = (fronts (goal.at.slice_bounds-kinds-end c).In_ok-version).kinds_are.within

pub slice_bounds-write-end : goal.slice_bounds-write-end
slice_bounds-write-end c = (fronts (goal.at.slice_bounds-write-end c).In_ok-version).kinds_are.long

pub slice_bounds-fields-end : goal.slice_bounds-fields-end
slice_bounds-fields-end c = (fronts (goal.at.slice_bounds-fields-end c).In_ok-version).fields_are.within

pub slice_bounds-write-end-2 : goal.slice_bounds-write-end-2
slice_bounds-write-end-2 c = (fronts (goal.at.slice_bounds-write-end-2 c).In_ok-version).fields_are.long
