-- `apart::take` meets its contract: what is refused alters nothing, and what is taken stands at the front of its list.
use native.Mathlib.Omega.{arith}
use lib.ListN.{length}
use Rattle.std.proofs.Common.{rules}
use Rattle.pieces.proofs.Pages.{pages, as_put}
use Rattle.layout.proofs.Packed.{length_kinds}
use Rattle.apart.specs.Apart.{kinds_taken, fields_taken}
use Rattle.apart.proofs.Taking.{Taken, refused, taken_apart, kept, filled}
use Rattle.apart.proofs.take.Goals as goal
use Rattle.apart.proofs.take.Goals.{In_ok-version}

pub returns-in_err-version-clause-kinds_after : goal.returns-in_err-version-clause-kinds_after
returns-in_err-version-clause-kinds_after c = kept kinds_taken c.args.kinds.now (refused c.args.deck.now (length c.args.kinds.now) (length c.args.fields.now) c.in_err-version.ensures)

pub returns-in_err-version-clause-fields_after : goal.returns-in_err-version-clause-fields_after
returns-in_err-version-clause-fields_after c = kept fields_taken c.args.fields.now (refused c.args.deck.now (length c.args.kinds.now) (length c.args.fields.now) c.in_err-version.ensures)

-- what was measured
made : (c : In_ok-version) → Taken c.args.deck.now (length c.args.kinds.now) (length c.args.fields.now) c.in_ok-version.version c.in_ok-version.count c.in_ok-version.size
made c = taken_apart c.args.deck.now (length c.args.kinds.now) (length c.args.fields.now) c.in_ok-version.ensures

pub list_kinds-requires : goal.list_kinds-requires
list_kinds-requires c = let t = made (goal.at.list_kinds-requires c).In_ok-version in ((c.in_ok-version.version, t.accepted), omega (arith, t.as_many, t.fits.places_enough))

pub put_all-requires : goal.put_all-requires
put_all-requires c = ((made (goal.at.put_all-requires c).In_ok-version).accepted, omega arith)

pub returns-clause-kinds_after : goal.returns-clause-kinds_after
returns-clause-kinds_after c = let t = made (goal.at.returns-clause-kinds_after c).In_ok-version in
    filled kinds_taken t.taken (c.list_kinds.ensures t.is t.fits.are) (omega (arith, length_kinds t.is.cards, t.fits.places_enough))

pub returns-clause-fields_after : goal.returns-clause-fields_after
returns-clause-fields_after c = let t = made (goal.at.returns-clause-fields_after c).In_ok-version in
    let put = c.put_all.ensures t.is t.fits.are in
    rw (← filled fields_taken t.taken (as_put _ (fields_taken t.is) put) t.fits.room_enough) (search (rules, pages, put))
