-- The answer of a writer says one thing, since the number of a reason names the reason: the contracts of the functions that write decks have one
-- answer.
use Prim.Native.Nat.{ℕ}
use Rattle.coincidence.specs.Coincidence.{OneToOne}
use Rattle.rows.specs.Rows.{checked}
use Rattle.rows.proofs.Laws.{checked_once}
use Rattle.ruling.specs.Said.{reason_number}
use Rattle.ruling.proofs.Reasons.{reason_of, reason_is}

pub said_once : OneToOne (checked {A = ℕ} reason_number)
said_once = checked_once reason_number reason_of reason_is
