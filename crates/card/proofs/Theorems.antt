-- What a number names, and what a body asks, say one thing: the contracts of `kind_of` and `transfer` have one answer.
use Rattle.coincidence.specs.Coincidence.{OneToOne}
use Rattle.rows.specs.Rows.{stated}
use Rattle.rows.proofs.Laws.{stated_once}
use Rattle.arc.specs.declared.Transfer.{Transfer}
use Rattle.card.specs.declared.Kind.{Kind}

pub named_once : OneToOne (stated {A = Kind} 34)
named_once = stated_once 34

pub asked_once : OneToOne (stated {A = Transfer} 23)
asked_once = stated_once 23
