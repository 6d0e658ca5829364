-- What an answer says can be undone, since the number of a reason names the reason: `said` is one to one, and the contract through it has one
-- answer.
use Rattle.coincidence.specs.Coincidence.{OneToOne}
use Rattle.search.proofs.Theorems.{answered_once}
use Rattle.arc.specs.Said.{reason_number}
use Rattle.arc.proofs.Theorems.{reasons_once}
use Rattle.lambert.specs.Said.{said}

pub said_once : OneToOne said
said_once = answered_once reason_number reasons_once
