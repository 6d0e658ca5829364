-- How long the text of object and epoch can be: 11 bytes and 21, or 4 where a card has neither.
use mathlib.Core.Path.{◌≡◌, refl}
use Prim.Native.Nat.{ℕ, ◌≤◌}
use native.Mathlib.Omega.{arith}
use lib.IntN.{ℤ}
use lib.ListN.{length, length-append}
use mir.Syntax.{w64}
use mir.Val.{SFits}
use Rattle.std.specs.Prelude.{Some, None}
use Rattle.text.proofs.Length.{length_count, length_signed}
use Rattle.tag.specs.Tag.{epoch_of, tag_with, tag_text}
use Rattle.tag.proofs.Epochs.{epoch_fits}

pub absent_length : length (tag_text None) ≡ 4
absent_length = refl

pub present_most : (object : ℕ) (epoch : ℤ) → SFits w64 epoch → length (tag_text (Some (record { object = object; epoch = epoch }))) ≤ 32
present_most object epoch f = simp (length-append) (omega (arith, length_count object, length_signed epoch f))

-- of a card that has both: the epoch is what eight of its bytes stand for
pub tag_most : (object word : ℕ) → length (tag_text (Some (tag_with object word))) ≤ 32
tag_most object word = present_most object (epoch_of word) (epoch_fits word)
