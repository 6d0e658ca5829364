-- `words::word` meets its contract: the library's sum of weighed bytes is their value, and 0 of those that stand in for none.
use mathlib.Core.Path.{refl, ap, ◌∙◌}
use mir.Syntax.{w64}
use Rattle.std.specs.Int.{from_le_bytes}
use Rattle.words.proofs.Value.{part_read}
use Rattle.words.proofs.word.Goals as goal

pub returns : goal.returns
returns c = c.from_le_bytes.ensures ∙ ap (from_le_bytes w64) c.unwrap_or.ensures ∙ part_read 7 c.args.s.now c.args.at c.part.result _ c.part.ensures refl
