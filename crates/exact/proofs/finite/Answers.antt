-- `exact::finite` meets its contract: of all values only the numbers lie strictly between the two infinities, and 1 / 0 is the one above zero.
use mathlib.Core.Path.{◌≡◌, refl, sym}
use mathlib.Core.Bool.{true, false, true≢false}
use lib.Ieee.{Float, nan, inf, fin, neg, div, lt, of_bits}
use Rattle.exact.specs.Numbers.{is_finite, number_of, ◌⊘◌}
use Rattle.exact.proofs.finite.Goals as goal

abbrev infinity : Float
infinity = number_of 0x3ff0_0000_0000_0000 ⊘ number_of 0

above : (x : Float) → lt (neg infinity) x ≡ true → lt x infinity ≡ is_finite x
unfolding neg div lt of_bits
above nan h = refl
above (inf true) h = absurd (true≢false (sym h))
above (inf false) h = refl
above (fin s m e) h = refl

not_above : (x : Float) → lt (neg infinity) x ≡ false → lt (neg infinity) x ≡ is_finite x
unfolding neg div lt of_bits
not_above nan h = refl
not_above (inf true) h = refl
not_above (inf false) h = absurd (true≢false h)
not_above (fin s m e) h = absurd (true≢false h)

pub returns-then-infinity-x : goal.returns-then-infinity-x
returns-then-infinity-x c = above c.args.x c.if-infinity-x.true

pub returns-else-infinity-x : goal.returns-else-infinity-x
returns-else-infinity-x c = not_above c.args.x c.if-infinity-x.false
