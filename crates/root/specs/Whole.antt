-- The whole part of a square root: what it is, and how it is found digit by digit. Definitions only.
use Rattle.std.specs.Prelude.{ℕ, zero, suc, ◌+◌, ◌*◌, ◌/◌, ◌≤◌, ◌<◌, cond, leb}

-- r is the whole part of the root of n
pub record IsWholeRoot (n r : ℕ) : Type 0 where
  pub low : r * r ≤ n
  pub high : n < (r + 1) * (r + 1)

-- the whole part of the root of an n below 4 ^ k: that of n / 4, doubled, and one more where its square is still at most n
unfoldable pub whole_root : ℕ → ℕ → ℕ
whole_root zero n = 0
whole_root (suc k) n = let r = 2 * whole_root k (n / 4) in cond (leb ((r + 1) * (r + 1)) n) (r + 1) r
