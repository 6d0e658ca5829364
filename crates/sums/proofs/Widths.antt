-- How long the line can be.
use Prim.Native.Nat.{◌≤◌}
use native.Mathlib.Omega.{arith}
use lib.Ieee.{Float}
use lib.ListN.{length, length-append}
use Rattle.rows.specs.Rows.{Checked, pass, refuse}
use Rattle.text.proofs.Length.{length_number}
use Rattle.sheets.proofs.Lines.{refusal_most}
use Rattle.sums.specs.Sums.{sums_line}

pub sums_most : (s : Checked (Float × Float)) → length (sums_line s) ≤ 41
sums_most (pass c) = simp (length-append, length_number c.0, length_number c.1) (omega arith)
sums_most (refuse k) = omega (arith, refusal_most k)
