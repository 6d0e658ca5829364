-- `root::digits::root_word` meets its contract: on the last sheet the digits are the whole root, so the word has the root's shape, and so is the definition's root.
use native.Mathlib.Omega.{arith}
use lib.Ieee.{binary64, of_bits}
use lib.Ieee.Bits.{of_bits-fits}
use Rattle.root.proofs.Shape.{written, is_nearest_root}
use Rattle.root.proofs.Paper.{digits_small, last_is_root}
use Rattle.root.proofs.digits.root_word.Goals as goal

pub rounded-requires : goal.rounded-requires
rounded-requires c = (digits_small c.worked-last.ensures.1, c.form_of-form.ensures.within)

pub returns : goal.returns
returns c = let x = of_bits binary64 c.args.w in
    let form = c.form_of-form in
    let last = c.worked-last in
    rw c.rounded.ensures (
      omega (arith, form.ensures.within, digits_small last.ensures.1),
      is_nearest_root x _ (of_bits-fits binary64 c.args.w) (written x form.result.v form.result.h last.result.digits form.ensures (last_is_root last.result last.ensures.1 last.ensures.0)),
    )
