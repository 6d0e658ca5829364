-- `layout::put_body` meets its contract: problem, spare and answer, and behind them the last spare of a refused card; of a transfer the fields.
use mathlib.Core.Path.{sym, ap, ◌∙◌}
use lib.ListN.{take-append-drop}
use Rattle.pieces.specs.Page.{written}
use Rattle.pieces.proofs.Pages.{pages}
use Rattle.card.specs.Fields.{problem_size}
use Rattle.layout.proofs.put_body.Goals as goal

pub returns-in-Refused : goal.returns-in-Refused
returns-in-Refused c = rw (c.in-Refused.is, c.put_half.ensures, c.put_spared-in-Refused.ensures) (simp pages)

pub returns-in-Transfer : goal.returns-in-Transfer
returns-in-Transfer c = rw c.in-Transfer.is (c.put.ensures ∙ ap (written c.args.page.now) (sym (take-append-drop problem_size c.args.fields.now)))
