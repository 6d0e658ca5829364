-- `pieces::put_as_far` meets its contract: from the piece's place on, or from the end on, as much is written over as there is room for.
use Rattle.pieces.proofs.Puts.{as_far}
use Rattle.pieces.proofs.Pages.{fields}
use Rattle.pieces.proofs.put_as_far.Goals as goal

pub returns : goal.returns
returns c = fields (as_far c.args.page.now.bytes.now c.args.page.now.at c.args.s.now c.min-start.ensures c.min-n.ensures c.copy_from_slice.ensures.after)
