-- `card::kind_of` meets its contract: each number that is named, and the rest, is one case of the definition.
use mathlib.Core.Path.{refl}
use borrow.Author.Tests.{ne_eqb}
use Rattle.card.specs.Fields.{kind_of}
use borrow.Author.Rules.{rules}
use Rattle.card.proofs.kind_of.Goals as goal

pub returns-in-1 : goal.returns-in-1
unfolding kind_of
returns-in-1 c = rw c.in-1.is refl

pub returns-in-2 : goal.returns-in-2
unfolding kind_of
returns-in-2 c = rw c.in-2.is refl

pub returns-in-3 : goal.returns-in-3
unfolding kind_of
returns-in-3 c = rw c.in-3.is refl

pub returns-in_default : goal.returns-in_default
unfolding kind_of
returns-in_default c = let n = c.args.number in
    rw (ne_eqb n 1 (search rules), ne_eqb n 2 (search rules), ne_eqb n 3 (search rules)) refl
