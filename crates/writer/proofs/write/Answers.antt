-- `writer::write` meets its contract: no version is given, or the deck is written in the version that is.
use mathlib.Core.Path.{sym, ◌∙◌}
use Rattle.layout.specs.Packed.{packed_deck, finished_deck}
use Rattle.layout.proofs.Refusals.{with_reason, passed_on}
use Rattle.layout.proofs.Writing.{no_version_writes, version_writes}
use Rattle.writer.proofs.write.Goals as goal

pub returns-in_err-version : goal.returns-in_err-version
unfolding finished_deck
returns-in_err-version c = let from = c.args in
    let both = no_version_writes from.number from.form (λ v. packed_deck v from.kinds.now from.fields.now) from.buffer.now (sym (with_reason c.given.result _ c.in_err-version.ensures.value c.given.ensures)) in
    record { result_value = passed_on c.from_residual.result _ c.from_residual.ensures.1 ∙ both.0; buffer_after = both.1 }

pub returns : goal.returns
unfolding finished_deck
returns c = let from = c.args in
    let both = version_writes from.number from.form (λ v. packed_deck v from.kinds.now from.fields.now) from.buffer.now (sym (with_reason c.given.result _ c.in_ok-version.ensures.value c.given.ensures)) (c.put.ensures.result_value, c.put.ensures.buffer_after) in
    record { result_value = both.0; buffer_after = both.1 }
