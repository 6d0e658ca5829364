-- `card::Kind::size` meets its contract: a sum of sizes, none of which is large.
use mathlib.Core.Path.{ap₂}
use Prim.Native.Nat.{ℕ, ◌+◌, ◌≤◌}
use native.Mathlib.Omega.{arith}
use Rattle.version.specs.Version.{largest_tag}
use Rattle.version.proofs.Sizes.{tag_most}
use Rattle.card.specs.Fields.{question_size, largest_answer}
use Rattle.card.proofs.Sizes.{answer_most}
use Rattle.card.proofs.Kind.size.Goals as goal
use Rattle.card.proofs.Kind.size.Goals.{After-answer}

few : (c : After-answer) → c.answer.result ≤ largest_answer
few c = rw c.answer.ensures (answer_most _)

pub overflow_add-result : goal.overflow_add-result
overflow_add-result c = omega (arith, few (goal.at.overflow_add-result c).After-answer)

pub overflow_add-result-2 : goal.overflow_add-result-2
overflow_add-result-2 c = let small : c.tag.result ≤ largest_tag = rw c.tag.ensures (tag_most _) in omega (arith, few (goal.at.overflow_add-result-2 c).After-answer, small)

pub returns : goal.returns
returns c = ap₂ (λ (n m : ℕ). question_size + n + m) c.answer.ensures c.tag.ensures
