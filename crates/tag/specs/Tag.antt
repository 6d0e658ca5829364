-- Object and epoch of a card: RULES, The deck 4 and 10, and The check program's listing, "The listing" below. Definitions only.
use Rattle.std.specs.Prelude.{ℕ, ◌-◌, ◌^◌, cond, List, [], ◌∷◌, ltb, ℤ, pos, negsuc, Option, Some, None}
use Rattle.pieces.specs.Pieces.{joined}
use Rattle.text.specs.Text.{text, count, signed}
use Rattle.tag.specs.declared.Tag.{Tag}

-- The deck 4: the epoch, an i64, in a word of eight bytes: two's complement, in which a word from 2^63 on is 2^64 more than it stands for
-- (`negsuc n` is -1 - n)
unfoldable pub epoch_of : (word : ℕ) → ℤ
epoch_of word = cond (ltb word (2 ^ 63)) (pos word) (negsuc (2 ^ 64 - 1 - word))

-- The deck 4 and 10: object and epoch, from the object and the epoch's word
abbrev pub tag_with : (object word : ℕ) → Tag
tag_with object word = record { object = object; epoch = epoch_of word }

-- The listing 2: object and epoch, or ` - -` where a card has neither, which The deck 10 keeps apart from zero
abbrev pub tag_text : Option Tag → List ℕ
tag_text None = text " - -"
tag_text (Some tag) = joined (count tag.object ∷ signed tag.epoch ∷ [])
