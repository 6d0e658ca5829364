-- An answer about the contents says one thing, since the number of a reason names the reason: the contracts of `entry_at` and `tested` have one
-- answer.
use Prim.Native.Nat.{ℕ}
use Rattle.coincidence.specs.Coincidence.{OneToOne}
use Rattle.rows.specs.Rows.{checked}
use Rattle.rows.proofs.Laws.{checked_once}
use Rattle.ruling.specs.Said.{reason_number}
use Rattle.ruling.proofs.Reasons.{reason_of, reason_is}
use Rattle.version.specs.declared.Version.{Version}
use Rattle.card.specs.declared.Kind.{Kind}

pub entered_once : OneToOne (checked {A = Kind} reason_number)
entered_once = checked_once reason_number reason_of reason_is

pub listed_once : OneToOne (checked {A = Version × ℕ} reason_number)
listed_once = checked_once reason_number reason_of reason_is
