-- `exact::word` meets its contract: NaN has the word that is written here, and every other number the one that the library gives.
use mathlib.Core.Path.{◌≡◌, refl, sym, ◌∙◌, ap}
use mathlib.Core.Bool.{true, true≢false}
use lib.Ieee.{Float, nan, inf, fin, is_nan, to_bits}
use Rattle.exact.specs.Numbers.{word_of}
use Rattle.exact.proofs.word.Goals as goal

nan_itself : (x : Float) → is_nan x ≡ true → x ≡ nan
unfolding is_nan
nan_itself nan h = refl
nan_itself (inf s) h = absurd (true≢false (sym h))
nan_itself (fin s m e) h = absurd (true≢false (sym h))

nan_word : word_of nan ≡ 0x7ff8_0000_0000_0000
unfolding to_bits
nan_word = refl

pub returns-then-is_nan : goal.returns-then-is_nan
returns-then-is_nan c = sym (ap word_of (nan_itself c.args.x (sym c.is_nan.ensures.value ∙ c.if-is_nan.true)) ∙ nan_word)
