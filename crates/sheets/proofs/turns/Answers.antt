-- `sheets::turns` meets its contract: the lines of the first n turns are written.
use mathlib.Core.Path.{ap, ◌∙◌}
use lib.Ieee.{binary64}
use Rattle.exact.specs.Numbers.{steps}
use Rattle.pieces.specs.Page.{written}
use Rattle.pieces.proofs.Pages.{two}
use Rattle.root.specs.Paper.{whole_of}
use Rattle.sheets.specs.Sheets.{turn_lines}
use Rattle.sheets.proofs.Lines.{one_more_turn, all_turns}
use Rattle.sheets.proofs.turns.Goals as goal

pub loop-n-init : goal.loop-n-init
unfolding turn_lines
loop-n-init c = c.put.ensures

pub loop-n-preserved : goal.loop-n-preserved
loop-n-preserved c =
    let v = whole_of (steps binary64 c.args.x) in
    rw (c.turn.ensures, c.loop-n.invariant, two) (ap (written c.args.page.now) (one_more_turn v c.loop-n.n c.sheet_of.ensures.1 c.sheet_of-in-loop-n.ensures.1))

pub returns : goal.returns
returns c = c.loop-n.invariant ∙ ap (written c.args.page.now) (all_turns (whole_of (steps binary64 c.args.x)) c.loop-n.n c.loop-n.auto.n-end c.loop-n-test.false)
