-- `root::root` meets its contract: each case of the tests is one of the definition, and above zero `root_word` gives the definition's root, which is not a NaN.
use native.Mathlib.Omega.{arith}
use lib.Ieee.{binary64}
use Rattle.exact.proofs.Words.{no_nan_word}
use Rattle.root.proofs.root.Goals as goal

pub float_from_bits-result : goal.float_from_bits-result
float_from_bits-result c = no_nan_word binary64 c.root_word.result (omega (arith, c.root_word.ensures.0))
