-- An answer of `put` says one thing, since the number of a reason names the reason: its contract has one answer.
use Rattle.coincidence.specs.Coincidence.{OneToOne}
use Rattle.rows.specs.Rows.{checked}
use Rattle.rows.proofs.Laws.{checked_once}
use Rattle.ruling.specs.Said.{reason_number}
use Rattle.ruling.proofs.Reasons.{reason_of, reason_is}
use Rattle.card.specs.declared.Kind.{Kind}

pub said_once : OneToOne (checked {A = Kind} reason_number)
said_once = checked_once reason_number reason_of reason_is
