-- What an answer of the entry tests says can be undone, since the number of a reason names the reason: a problem or its refusal is one to one,
-- and a contract through it has one answer.
use Rattle.coincidence.specs.Coincidence.{OneToOne}
use Rattle.rows.specs.Rows.{checked}
use Rattle.rows.proofs.Laws.{checked_once}
use Rattle.search.specs.declared.Bracket.{Bracket}
use Rattle.conic.specs.declared.Scaled.{Scaled}
use Rattle.conic.specs.Said.{reason_number}
use Rattle.conic.proofs.Theorems.{reason_of, reason_is}

pub scaled_once : OneToOne (checked {A = Scaled} reason_number)
scaled_once = checked_once reason_number reason_of reason_is

pub start_once : OneToOne (checked {A = Scaled × Bracket} reason_number)
start_once = checked_once reason_number reason_of reason_is
