-- `exact::number` meets its contract: a word above the infinity's, its sign taken off, is a NaN's, and every other is read as it stands.
use mathlib.Core.Path.{◌≡◌, refl, sym, ◌∙◌}
use mathlib.Core.Bool.{true, true≢false}
use Prim.Native.Nat.{ℕ, ◌%◌, ◌<◌}
use borrow.Author.Tests.{lt-ltb}
use lib.Ieee.{Float, nan, inf, fin, binary64, div, is_nan, of_bits}
use lib.Ieee.Bits.{nan_bits_is, nan_bits_above}
use Rattle.exact.specs.Numbers.{number_of, ◌⊘◌}
use Rattle.exact.proofs.Words.{no_nan_word}
use Rattle.exact.proofs.number.Goals as goal

is_nan_lem : (x : Float) → is_nan x ≡ true → x ≡ nan
unfolding is_nan
is_nan_lem nan h = refl
is_nan_lem (inf s) h = absurd (true≢false (sym h))
is_nan_lem (fin s m e) h = absurd (true≢false (sym h))

nan_word : (w : ℕ) → 0x7ff0_0000_0000_0000 < w % 0x8000_0000_0000_0000 → number_of 0 ⊘ number_of 0 ≡ number_of w
unfolding div of_bits
nan_word w h = sym (is_nan_lem (number_of w) (sym (nan_bits_is binary64 w) ∙ nan_bits_above binary64 w ∙ lt-ltb 0x7ff0_0000_0000_0000 (w % 0x8000_0000_0000_0000) h))

pub float_from_bits-result : goal.float_from_bits-result
float_from_bits-result c = no_nan_word binary64 c.args.w c.if-w-gt9218868437227405312.false

pub returns-then-w-gt9218868437227405312 : goal.returns-then-w-gt9218868437227405312
returns-then-w-gt9218868437227405312 c = nan_word c.args.w c.if-w-gt9218868437227405312.true
