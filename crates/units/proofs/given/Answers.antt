-- `units::given` meets its contract: it tests the list of the numbers given.
use Rattle.units.proofs.given.Goals as goal

pub returns : goal.returns
returns c = c.first_not_finite.ensures
