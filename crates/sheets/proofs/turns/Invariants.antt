-- What lasts over the turns of `sheets::turns`.
use mathlib.Core.Path.{◌≡◌}
use lib.Ieee.{binary64}
use Rattle.exact.specs.Numbers.{steps}
use Rattle.pieces.specs.Page.{written}
use Rattle.root.specs.Paper.{whole_of}
use Rattle.sheets.specs.Sheets.{turn_lines}
use Rattle.sheets.proofs.turns.Given as goal

abbrev pub invariant-loop-n : goal.invariant-loop-n
invariant-loop-n l = l.page ≡ written l.fn.page (turn_lines (whole_of (steps binary64 l.x)) l.n)
