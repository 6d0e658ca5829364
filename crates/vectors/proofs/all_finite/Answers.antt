-- `vectors::all_finite` meets its contract: what `finite` ensures, three times.
use mathlib.Core.Path.{refl}
use Rattle.vectors.proofs.all_finite.Goals as goal

pub returns : goal.returns
returns c = rw (c.finite.ensures, c.finite-2.ensures, c.finite-3.ensures) refl
