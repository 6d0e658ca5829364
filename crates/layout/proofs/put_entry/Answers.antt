-- `layout::put_entry` meets its contract: kind, offset and length, one behind the other, of which the last fits four bytes.
use native.Mathlib.Omega.{arith}
use Rattle.card.proofs.Sizes.{size_most}
use Rattle.layout.proofs.put_entry.Goals as goal

pub overflow_cast-size : goal.overflow_cast-size
overflow_cast-size c = omega (arith, c.size.ensures, size_most c.args.version c.args.kind)
