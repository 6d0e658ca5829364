-- `card::transfer` meets its contract: a number that names a way, with the problem's fields, or one that names none.
use mathlib.Core.Path.{◌≡◌, refl, sym}
use borrow.Author.Rules.{rules}
use borrow.Author.Tests.{ne_eqb}
use Rattle.rows.specs.Rows.{pass, onward}
use Rattle.card.specs.Fields.{way_of, transfer_of}
use Rattle.card.proofs.transfer.Goals as goal
use Rattle.card.proofs.transfer.Goals.{in-0, in-1}

pub returns-in_default : goal.returns-in_default
unfolding way_of transfer_of onward
returns-in_default c = let n = c.half.result in
    rw (sym c.half.ensures, ne_eqb n 0 (search rules), ne_eqb n 1 (search rules)) refl

pub returns : goal.returns
unfolding way_of transfer_of onward
returns c =
    let named : way_of c.half.result ≡ pass c.match-half.way' = elim c.match-half.branch [ in-0 w ↦ rw (w.in-0.is, w.way'-is) refl | in-1 w ↦ rw (w.in-1.is, w.way'-is) refl ] in
    rw (sym c.half.ensures, named, c.problem-p.ensures) refl
