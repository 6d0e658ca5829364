-- `series::in_range` meets its contract: |z| as `absolute` ensures it.
use mathlib.Core.Path.{refl}
use Rattle.universal.proofs.series.in_range.Goals as goal

pub returns : goal.returns
returns c = rw c.absolute.ensures refl
