-- `entry::all_given` meets its contract: the places that `given` finds have the entry's numbers.
use Rattle.std.proofs.Common.{rules}
use Rattle.vectors.specs.Vectors.{numbers_given}
use Rattle.units.proofs.Places.{given_again}
use Rattle.conic.specs.Said.{input_number}
use Rattle.entry.proofs.all_given.Goals as goal

pub returns : goal.returns
returns c = let args = c.args in
    rw (given_again input_number (numbers_given args.mu args.r args.v args.last) c.given.result c.given.ensures) (search rules)
