-- What the private functions of `digits` promise each other. Nothing that a caller of `root` sees depends on it. Definitions only.
use Rattle.std.specs.Prelude.{◌≡◌, ℕ, ◌+◌, ◌*◌, ◌^◌, ◌≤◌}

-- a number of u steps of 2^-1074 in the form that the digits are taken from: u * 2^1074, whose root in steps is the number's, is
-- v * 2^54 * 2^(2h), and the whole root of v * 2^54 has 54 digits, which are not all ones
pub record InForm (u v h : ℕ) : Type 0 where
  pub same : u * 2 ^ 1074 ≡ v * 2 ^ 54 * 2 ^ (2 * h)
  pub least : 2 ^ 52 ≤ v
  pub most : v + 2 ≤ 2 ^ 54
  pub within : h ≤ 1532
