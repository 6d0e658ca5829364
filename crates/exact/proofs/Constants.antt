-- The constants 1 and 2 as numbers: in_steps 0 steps, and twice as many.
use mathlib.Core.Path.{◌≡◌, refl}
use Prim.Native.Nat.{◌*◌, ◌<◌}
use lib.Pow.{pow_pos}
use lib.Ieee.{binary64, low, of_bits}
use lib.Ieee.Bits.{of_bits-fits}
use Rattle.exact.specs.Numbers.{one, two, Number, steps, in_steps}

pub one_some : 0 < in_steps 0
unfolding in_steps
one_some = pow_pos (low binary64)

pub one_number : Number binary64 one
unfolding of_bits
one_number = (of_bits-fits binary64 0x3ff0_0000_0000_0000, tt)

pub one_steps : steps binary64 one ≡ in_steps 0
unfolding steps of_bits in_steps
one_steps = refl

pub two_number : Number binary64 two
unfolding of_bits
two_number = (of_bits-fits binary64 0x4000_0000_0000_0000, tt)

pub two_steps : steps binary64 two ≡ 2 * in_steps 0
unfolding steps of_bits in_steps
two_steps = refl
