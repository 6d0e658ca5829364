-- `root::sheet_after` meets its contract: each case of the tests is one of the definition, and above zero `sheet_of` gives the definition's sheet.
use mathlib.Core.Path.{sym, ap, ◌∙◌, subst}
use Prim.Native.Nat.{min}
use lib.Ieee.{Float, binary64}
use Rattle.std.proofs.Common.{rules}
use Rattle.std.specs.Prelude.{Ok}
use Rattle.exact.specs.Numbers.{steps}
use Rattle.root.specs.Tested.{Tested}
use Rattle.root.specs.Paper.{whole_of, after_turns, sheet}
use Rattle.root.proofs.Cases.{shows_sheet, shows_zero, shows_refused}
use Rattle.root.proofs.sheet_after.Goals as goal

pub returns-in_err-w : goal.returns-in_err-w
returns-in_err-w c = search (rules, shows_refused)

pub returns-in-Some : goal.returns-in-Some
returns-in-Some c = let t = subst (λ o. Tested c.args.x (Ok o)) c.in-Some.is c.in_ok-w.ensures in
    ap sheet (c.sheet_of.ensures ∙ ap (λ (x : Float). after_turns (whole_of (steps binary64 x)) (min c.args.turns 54)) t.2) ∙ sym (shows_sheet c.args.x c.args.turns t.1 t.0)

pub returns-in-None : goal.returns-in-None
returns-in-None c = let t = subst (λ o. Tested c.args.x (Ok o)) c.in-None.is c.in_ok-w.ensures in
    sym (shows_zero c.args.x c.args.turns t.1 t.0)
