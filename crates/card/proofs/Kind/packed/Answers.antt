-- `card::Kind::packed` meets its contract: a sum of sizes, none of which is large.
use mathlib.Core.Path.{ap₂, ◌∙◌}
use Prim.Native.Nat.{ℕ, ◌+◌, ◌≤◌}
use native.Mathlib.Omega.{arith}
use Rattle.version.specs.Version.{largest_tag}
use Rattle.version.proofs.Sizes.{tag_most}
use Rattle.card.specs.Fields.{problem_size, largest_answer}
use Rattle.card.proofs.Packed.{own_most}
use Rattle.card.proofs.Kind.packed.Goals as goal
use Rattle.card.proofs.Kind.packed.Goals.{After-own}

few : (c : After-own) → c.own.result ≤ largest_answer
few c = rw c.own.ensures (own_most _)

pub overflow_add-result : goal.overflow_add-result
overflow_add-result c = omega (arith, few (goal.at.overflow_add-result c).After-own)

pub overflow_add-result-2 : goal.overflow_add-result-2
overflow_add-result-2 c = let small : c.tag.result ≤ largest_tag = rw c.tag.ensures (tag_most _) in omega (arith, few (goal.at.overflow_add-result-2 c).After-own, small)

pub returns : goal.returns
returns c = ap₂ (λ (n m : ℕ). problem_size + n + m) c.own.ensures c.tag.ensures ∙ omega arith
