-- `pieces::put` meets its contract: where there is room for all of the piece it is written over as many bytes from its place on.
use native.Mathlib.Omega.{arith}
use Rattle.pieces.proofs.Puts.{all_of}
use Rattle.pieces.proofs.Pages.{fields}
use Rattle.pieces.proofs.put.Goals as goal

pub returns : goal.returns
returns c = fields (all_of c.args.page.now.bytes.now c.args.page.now.at c.args.s.now c.min-start.ensures (omega arith) c.copy_from_slice.ensures.after)
