-- `arc_entry::all_given` meets its contract: the places that `given` finds have one number here.
use Rattle.std.proofs.Common.{rules}
use Rattle.vectors.specs.Vectors.{numbers_given}
use Rattle.units.proofs.Places.{given_again}
use Rattle.arc_entry.specs.ArcEntry.{input_number}
use Rattle.arc_entry.proofs.all_given.Goals as goal

pub returns : goal.returns
returns c = let q = c.args.q in rw (given_again input_number (numbers_given q.mu q.r1 q.r2 q.dt) c.given.result c.given.ensures) (search rules)
