-- What an answer of the tests says can be undone, so the contract through it has one answer.
use Rattle.coincidence.specs.Coincidence.{OneToOne}
use Rattle.rows.specs.Rows.{checked}
use Rattle.rows.proofs.Laws.{checked_once}
use Rattle.search.specs.declared.Bracket.{Bracket}
use Rattle.arc.specs.declared.Scaled.{Scaled}
use Rattle.arc.specs.Said.{reason_number}
use Rattle.arc.proofs.Theorems.{reason_of, reason_is}

pub start_once : OneToOne (checked {A = Scaled × Bracket} reason_number)
start_once = checked_once reason_number reason_of reason_is
