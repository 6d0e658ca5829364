-- A part of a list of equal values has as many places as it is asked for.
use Rattle.std.proofs.Common.{◌≡◌, ℕ, ◌≤◌, length, take, replicate, sym, arith, length-take-le}
use lib.ListN.{length-replicate}

pub lent : (n value part : ℕ) → part ≤ n → part ≡ length (take part (replicate n value))
lent n value part h = sym (length-take-le part (replicate n value) (omega (arith, length-replicate n value)))
