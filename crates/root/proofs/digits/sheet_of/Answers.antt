-- `root::digits::sheet_of` meets its contract: the form's v is the rules', and the sentence fixes the sheet.
use mathlib.Core.Path.{◌≡◌, sym, ◌∙◌}
use Prim.Native.Nat.{min, ◌-◌}
use native.Mathlib.Omega.{arith}
use lib.Ieee.{binary64, of_bits}
use Rattle.exact.specs.Numbers.{steps}
use Rattle.root.specs.Paper.{whole_of, after_turns, OnPaper}
use Rattle.root.proofs.Form.{whole_is}
use Rattle.root.proofs.Paper.{one_sheet, left_after, after_holds}
use Rattle.root.proofs.digits.sheet_of.Goals as goal

pub returns : goal.returns
returns c = let form = c.form_of in
    let left : c.worked.result.left ≡ 54 - min c.args.turns 54 = omega (arith, c.worked.ensures.0, c.saturating_sub.ensures) in
    let v = whole_of (steps binary64 (of_bits binary64 c.args.w)) in
    let p : OnPaper v c.worked.result = rw (← whole_is _ form.result.v form.result.h form.ensures) c.worked.ensures.1 in
    one_sheet c.worked.result (after_turns v (min c.args.turns 54)) p (after_holds v (min c.args.turns 54) p.room (omega arith)) (left ∙ sym (left_after v (min c.args.turns 54)))
