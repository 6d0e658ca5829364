-- At 0 the time of a scaled problem is 0, exactly, and no wanted time is on the wrong side of it.
use mathlib.Core.Path.{◌≡◌}
use mathlib.Core.Bool.{true, false}
use native.Mathlib.Nat.{not-le_of_lt, le_of_lt}
use lib.Dec.{T_not, not_T}
use lib.Ieee.{Float, binary64, lt, le}
use lib.Ieee.Bits.{is_false}
use Rattle.exact.specs.Numbers.{nought, Number}
use Rattle.exact.proofs.Basics.{passed, failed}
use Rattle.exact.proofs.Order.{lt_place, le_place}
use Rattle.exact.proofs.Zero.{nought_number}
use Rattle.universal.proofs.AtZero as universal
use Rattle.conic.specs.declared.Scaled.{Scaled}
use Rattle.conic.specs.TimeAndRatio.{time_at}

module _ (o : Scaled) (h : Number binary64 o.s) (k : Number binary64 o.alpha) where
  pub time_at_zero : time_at o nought ≡ nought
  unfolding time_at
  time_at_zero = universal.time_at_zero o.s o.alpha h k

  -- a time is never on the wrong side of the time at 0: a t ≥ 0 is not below it, and another t is not above it
  module _ (t : Float) (n : Number binary64 t) where
    pub not_below_zero_time : le nought t ≡ true → lt t (time_at o nought) ≡ false
    not_below_zero_time e =
        rw time_at_zero
        (is_false (lt t nought) (not_T (lt t nought) (λ l. not-le_of_lt ((lt_place binary64 t nought n nought_number).0 l) ((le_place binary64 nought t nought_number n).0 (passed e)))))

    pub not_above_zero_time : le nought t ≡ false → lt (time_at o nought) t ≡ false
    not_above_zero_time e =
        rw time_at_zero
        (is_false (lt nought t) (not_T (lt nought t) (λ l. T_not (le nought t) (failed e) ((le_place binary64 nought t nought_number n).1 (le_of_lt ((lt_place binary64 nought t nought_number n).0 l))))))
