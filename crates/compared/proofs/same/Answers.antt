-- `compared::same` meets its contract: what the two functions `word` ensure, three times.
use mathlib.Core.Path.{refl}
use Prim.Native.Nat.{◌≤◌}
use native.Mathlib.Omega.{arith}
use Rattle.card.specs.Fields.{velocity_from}
use Rattle.compared.specs.declared.Place.{Place}
use Rattle.compared.specs.declared.Place.TheVariants as place
use Rattle.compared.specs.Compared.{place_at}
use Rattle.compared.proofs.same.Goals as goal

-- no place stands behind the second
place_most : (p : Place) → place_at p ≤ velocity_from
place_most place.First = omega arith
place_most place.Second = omega arith

pub overflow_add-at : goal.overflow_add-at
overflow_add-at c = omega (arith, c.start-at.ensures, place_most c.args.place)

pub overflow_add-at-2 : goal.overflow_add-at-2
overflow_add-at-2 c = omega (arith, c.start-at.ensures, place_most c.args.place)

pub returns : goal.returns
returns c = rw (c.word.ensures, c.word-2.ensures, c.word-3.ensures, c.word-4.ensures, c.word-5.ensures, c.word-6.ensures, c.start-at.ensures) refl
