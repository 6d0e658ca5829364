-- `card::tag` meets its contract: absent in version 1, and in version 2 the two words that stand there.
use mathlib.Core.Path.{refl}
use native.Mathlib.Omega.{arith}
use Rattle.card.specs.Fields.{tag_of}
use Rattle.card.proofs.Sizes.{answer_most, tag_inside}
use Rattle.card.proofs.tag.Goals as goal

pub overflow_add-at : goal.overflow_add-at
overflow_add-at c = let k = c.args.kind in omega (arith, c.tag_at-at.ensures, tag_inside k, answer_most k)

pub returns-in-One : goal.returns-in-One
unfolding tag_of
returns-in-One c = rw c.in-One.is refl

pub returns-in-Two : goal.returns-in-Two
unfolding tag_of
returns-in-Two c = rw (c.present.ensures, c.word.ensures, c.half.ensures, c.tag_at-at.ensures, c.in-Two.is) refl
