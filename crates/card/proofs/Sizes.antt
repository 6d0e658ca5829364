-- How large a body can be, and that each size is the number that RULES, The deck 5 to 8, names.
use mathlib.Core.Path.{◌≡◌, refl}
use mathlib.Core.List.{List}
use Prim.Native.Nat.{ℕ, ◌+◌, ◌≤◌}
use native.Mathlib.Omega.{arith}
use lib.ListN.{length}
use Rattle.version.specs.declared.Version.{Version}
use Rattle.version.specs.declared.Version.TheVariants as version
use Rattle.version.specs.Version.{tag_size}
use Rattle.version.proofs.Sizes.{tag_most}
use Rattle.tag.specs.Tag.{tag_text}
use Rattle.tag.proofs.Length.{absent_length}
use Rattle.tag.proofs.Length as tag
use Rattle.card.specs.declared.Kind.{Kind}
use Rattle.card.specs.declared.Kind.TheVariants as kind
use Rattle.card.specs.Fields.{question_size, largest_answer, answer_size, answer_at, tag_at, size_of, largest_body, own_size, packed_size, tag_of}

-- no body has more bytes than a solved card's in version 2
pub answer_most : (k : Kind) → answer_size k ≤ largest_answer
unfolding answer_size
answer_most kind.Solved = omega arith
answer_most kind.Refused = omega arith
answer_most kind.Transfer = omega arith

pub size_most : (v : Version) (k : Kind) → size_of v k ≤ largest_body
size_most v k = omega (arith, answer_most k, tag_most v)

-- what a card asks and answers stands in its body
pub answer_inside : (v : Version) (k : Kind) → answer_at v k + answer_size k ≤ size_of v k
unfolding answer_at
answer_inside v kind.Solved = omega arith
answer_inside v kind.Refused = omega arith
answer_inside v kind.Transfer = omega arith

-- and so do object and epoch, where there are any
pub tag_inside : (k : Kind) → tag_at k ≤ question_size + answer_size k
unfolding tag_at
tag_inside kind.Solved = omega arith
tag_inside kind.Refused = omega arith
tag_inside kind.Transfer = omega arith

-- and no more text than 32 bytes
pub tag_text_most : (v : Version) (k : Kind) (body : List ℕ) → length (tag_text (tag_of v k body)) ≤ 32
unfolding tag_of
tag_text_most version.One k body = omega (arith, absent_length)
tag_text_most version.Two k body = tag.tag_most _ _

-- The deck 5 to 7: the bytes of a body; Writing a deck 3: of a card's fields
pub record Numbers (v : Version) (bodies fields : ℕ × ℕ × ℕ) : Type 0 where
  pub solved : (size_of v kind.Solved ≡ bodies.0) × (packed_size v kind.Solved ≡ fields.0)
  pub refused : (size_of v kind.Refused ≡ bodies.1) × (packed_size v kind.Refused ≡ fields.1)
  pub transfer : (size_of v kind.Transfer ≡ bodies.2) × (packed_size v kind.Transfer ≡ fields.2)

pub in_version_1 : Numbers version.One (128, 80, 104) (124, 72, 104)
unfolding tag_size answer_size own_size
in_version_1 = record { solved = (refl, refl); refused = (refl, refl); transfer = (refl, refl) }

pub in_version_2 : Numbers version.Two (140, 92, 116) (136, 84, 116)
unfolding tag_size answer_size own_size
in_version_2 = record { solved = (refl, refl); refused = (refl, refl); transfer = (refl, refl) }

-- The deck 4 and 7: object and epoch stand at 72, and on a transfer at 104
pub tag_places : (tag_at kind.Solved ≡ 72) × (tag_at kind.Refused ≡ 72) × (tag_at kind.Transfer ≡ 104)
unfolding tag_at answer_size
tag_places = (refl, refl, refl)
