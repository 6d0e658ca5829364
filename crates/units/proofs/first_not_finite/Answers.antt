-- `units::first_not_finite` meets its contract: the row of tests refuses where the first number stands that is not finite.
use mathlib.Core.Path.{◌≡◌, sym, ap, ◌∙◌}
use mathlib.Core.Bool.{not}
use Rattle.std.proofs.Common.{rules}
use Rattle.std.proofs.lemmas.Iterator.{YieldsList-from_slice}
use Rattle.std.proofs.lemmas.Iterator.Search.{position_from_yields_List}
use Rattle.exact.specs.Numbers.{is_finite}
use Rattle.units.specs.Units.{finite_from, by_place}
use Rattle.units.proofs.Places.{is_first, by_first}
use Rattle.units.proofs.first_not_finite.Goals as goal
use Rattle.units.proofs.first_not_finite.Goals.{After-position}

-- the search goes over the numbers given, by the row's own test
found : (c : After-position) → is_first c.position.result ≡ finite_from by_place 0 c.args.numbers
found c = ap is_first (position_from_yields_List (λ x. not (is_finite x)) _ _ c.position.result c.position.ensures.ran (YieldsList-from_slice c.args.numbers c.iter.ensures.rest) (λ x b q k. search rules)) ∙ by_first c.args.numbers

pub returns-in-Some : goal.returns-in-Some
returns-in-Some c = ap is_first (sym c.in-Some.is) ∙ found (goal.at.returns-in-Some c).After-position

pub returns-in-None : goal.returns-in-None
returns-in-None c = ap is_first (sym c.in-None.is) ∙ found (goal.at.returns-in-None c).After-position
