-- `sheets::put_working` meets its contract: what leads up to the root stands before its line.
use mathlib.Core.Path.{ap}
use Rattle.pieces.specs.Page.{written}
use Rattle.pieces.proofs.Pages.{two}
use Rattle.sheets.proofs.Lines.{working_is}
use Rattle.sheets.proofs.put_working.Goals as goal

pub returns : goal.returns
returns c = rw (c.put_root.ensures, c.leading_up.ensures, two) (ap (written c.args.page.now) (working_is c.args.x c.sheet_after.ensures c.root.ensures))
