-- `card::Kind::answer_at` meets its contract: each kind is one case of the definition.
use mathlib.Core.Path.{refl, ap, ◌∙◌}
use Prim.Native.Nat.{ℕ, ◌+◌, ◌≤◌}
use native.Mathlib.Omega.{arith}
use Rattle.version.specs.Version.{largest_tag}
use Rattle.version.proofs.Sizes.{tag_most}
use Rattle.card.specs.Fields.{question_size, answer_at}
use Rattle.card.proofs.Kind.answer_at.Goals as goal

-- object and epoch have few bytes
pub overflow_add-result : goal.overflow_add-result
overflow_add-result c = let small : c.tag.result ≤ largest_tag = rw c.tag.ensures (tag_most _) in omega (arith, small)

pub overflow_add-result-in-Refused : goal.overflow_add-result-in-Refused
overflow_add-result-in-Refused c = let small : c.tag-in-Refused.result ≤ largest_tag = rw c.tag-in-Refused.ensures (tag_most _) in omega (arith, small)

pub returns-in-Solved : goal.returns-in-Solved
unfolding answer_at
returns-in-Solved c = ap (λ (n : ℕ). question_size + n) c.tag.ensures ∙ rw c.in-Solved.is refl

pub returns-in-Refused : goal.returns-in-Refused
unfolding answer_at
returns-in-Refused c = ap (λ (n : ℕ). question_size + n) c.tag-in-Refused.ensures ∙ rw c.in-Refused.is refl

pub returns-in-Transfer : goal.returns-in-Transfer
unfolding answer_at
returns-in-Transfer c = rw c.in-Transfer.is refl
