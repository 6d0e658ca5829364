-- `tag::present` meets its contract: the epoch is what the word stands for, which fits an i64.
use mathlib.Core.Path.{sym, ap, ◌∙◌}
use lib.IntN.{ℤ}
use mir.Syntax.{w64}
use mir.Val.{to_z, of_z}
use mir.Facts.{to_z-of_z}
use Rattle.tag.proofs.Epochs.{as_read, epoch_fits}
use Rattle.tag.proofs.present.Goals as goal

pub returns : goal.returns
returns c = let word = c.args.word in
    ap (λ (epoch : ℤ). record { object = c.args.object; epoch = epoch }) (ap (λ (z : ℤ). to_z w64 (of_z w64 z)) (c.cast_signed.ensures ∙ sym (as_read word)) ∙ to_z-of_z (epoch_fits word))
