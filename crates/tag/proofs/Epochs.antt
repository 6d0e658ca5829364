-- Laws of epochs: a word stands for the number that a machine reads in it as an i64, so it fits one, and no two words stand for the same.
use mathlib.Core.Path.{◌≡◌, refl, sym, ap, ◌∙◌}
use mathlib.Core.Bool.{Bool, true, false, cond}
use Prim.Native.Nat.{ℕ, suc, ◌-◌, ◌^◌, ◌<◌}
use native.Mathlib.Omega.{arith}
use borrow.Author.Tests.{ltb-true, ltb-false}
use lib.Dec.{ltb}
use lib.IntN.{pos, negsuc}
use mir.Syntax.{w64}
use mir.Val.{Fits, SFits, sel, to_z}
use mir.Facts.{to_z_inj}
use Rattle.tag.specs.Tag.{epoch_of}

pub as_read : (word : ℕ) → epoch_of word ≡ to_z w64 word
unfolding epoch_of
as_read word = go (ltb word (2 ^ 63))
  where
    go : (b : Bool) → cond b (pos word) (negsuc (2 ^ 64 - 1 - word)) ≡ sel b (pos word) (negsuc (2 ^ 64 - suc word))
    go true = refl
    go false = let same : 2 ^ 64 - 1 - word ≡ 2 ^ 64 - suc word = omega arith in ap negsuc same

fits : {word : ℕ} → word < 2 ^ 64 → Fits w64 word
fits h = record { fits = h }

-- whatever the word is, what it stands for fits an i64
pub epoch_fits : (word : ℕ) → SFits w64 (epoch_of word)
unfolding epoch_of
epoch_fits word = go (ltb word (2 ^ 63)) refl
  where
    go : (b : Bool) → ltb word (2 ^ 63) ≡ b → SFits w64 (cond b (pos word) (negsuc (2 ^ 64 - 1 - word)))
    go true e = record { sfits = ltb-true word (2 ^ 63) e }
    go false e = record { sfits = omega (arith, ltb-false word (2 ^ 63) e) }

pub epoch_once : (v w : ℕ) → v < 2 ^ 64 → w < 2 ^ 64 → epoch_of v ≡ epoch_of w → v ≡ w
epoch_once v w h k e = to_z_inj (fits h) (fits k) (sym (as_read v) ∙ e ∙ as_read w)
