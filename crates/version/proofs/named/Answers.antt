-- `version::named` meets its contract: each number that is named, and the rest, is one case of the definition.
use mathlib.Core.Path.{◌≡◌, refl}
use borrow.Author.Rules.{rules}
use borrow.Author.Tests.{ne_eqb}
use Rattle.version.specs.Version.{version_of}
use Rattle.version.proofs.named.Goals as goal

pub returns-in-1 : goal.returns-in-1
unfolding version_of
returns-in-1 c = rw c.in-1.is refl

pub returns-in-2 : goal.returns-in-2
unfolding version_of
returns-in-2 c = rw c.in-2.is refl

pub returns-in_default : goal.returns-in_default
unfolding version_of
returns-in_default c =
    let n = c.args.number in
    let not_one : n ≡ 1 → ⊥ = search rules in
    let not_two : n ≡ 2 → ⊥ = search rules in
    rw (ne_eqb n 1 not_one, ne_eqb n 2 not_two) refl
