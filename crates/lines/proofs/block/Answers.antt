-- `lines::block` meets its contract.
use mathlib.Core.Path.{ap₂}
use Prim.Native.Nat.{ℕ, ◌*◌}
use native.Mathlib.Omega.{arith}
use Rattle.lines.proofs.Records.{block_most}
use Rattle.lines.proofs.block.Goals as goal

pub returns : goal.returns
returns c = ap₂ (λ (n w : ℕ). n * w) c.at_a_time.ensures c.width.ensures

pub overflow_mul-result : goal.overflow_mul-result
overflow_mul-result c = omega (arith, returns c, block_most c.args.asked)
