-- `sheets::leading_up` meets its contract: where there is a last sheet, it is that of x, and so its digits are small.
use mathlib.Core.Path.{◌≡◌, sym, ap}
use mathlib.Core.List.{List, ◌++◌, append-nil}
use Prim.Native.Nat.{ℕ}
use lib.Ieee.{binary64}
use Rattle.std.proofs.Common.{rules}
use Rattle.exact.specs.Numbers.{steps}
use Rattle.exact.proofs.Basics.{passed}
use Rattle.pieces.specs.Page.{written}
use Rattle.pieces.proofs.Pages.{two}
use Rattle.root.specs.Paper.{whole_of, sheet, shown, sheet_of}
use Rattle.root.proofs.Paper.{digits_small}
use Rattle.root.proofs.Sheets.{holds_on_each}
use Rattle.sheets.specs.Sheets.{turn_lines, rounded_line}
use Rattle.sheets.proofs.leading_up.Goals as goal

pub rounded-requires : goal.rounded-requires
rounded-requires c = let is : sheet_of c.args.x 54 ≡ sheet c.in-Ok-Some.sheet = search rules in digits_small (holds_on_each c.args.x (passed c.well_formed.0.1) 54 c.in-Ok-Some.sheet is)

pub returns-in-Ok-Some : goal.returns-in-Ok-Some
returns-in-Ok-Some c =
    let is : shown c.args.last ≡ sheet c.in-Ok-Some.sheet = search rules in
    let one_piece = ap (λ (l : List ℕ). turn_lines (whole_of (steps binary64 c.args.x)) 54 ++ l) (sym (append-nil (rounded_line c.in-Ok-Some.sheet))) in
    rw (is, c.rounded.ensures, c.turns.ensures, two) (ap (written c.args.page.now) one_piece)
