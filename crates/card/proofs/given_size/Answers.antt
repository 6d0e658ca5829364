-- `card::given_size` meets its contract: a sum that is not large.
use mathlib.Core.Path.{ap}
use Prim.Native.Nat.{ℕ, ◌+◌, ◌≤◌}
use native.Mathlib.Omega.{arith}
use Rattle.version.specs.Version.{largest_tag}
use Rattle.version.proofs.Sizes.{tag_most}
use Rattle.card.specs.Fields.{problem_size}
use Rattle.card.proofs.given_size.Goals as goal

pub overflow_add-result : goal.overflow_add-result
overflow_add-result c = let small : c.tag.result ≤ largest_tag = rw c.tag.ensures (tag_most _) in omega (arith, small)

pub returns : goal.returns
returns c = ap (λ (n : ℕ). problem_size + n) c.tag.ensures
