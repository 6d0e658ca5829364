-- The tally of a deck's verdicts: RULES, Tally. Definitions only.
use Rattle.std.specs.Prelude.{◌+◌, cond, List, [], ◌∷◌, pos, eqb, Float}
use Rattle.std.specs.Float.{binary64}
use Rattle.std.specs.Float.Ieee.{lt, of_int}
use Rattle.exact.specs.Numbers.{◌⊕◌, ◌⊘◌, nought}
use Rattle.ruling.specs.Said.{Said, solved, refused, rejected}
use Rattle.deck.specs.declared.Totals.{Totals}
use Rattle.deck.specs.declared.tally.Running.{Running}

-- before the first card
abbrev pub nothing : Running
nothing = record { solved = 0; refused = 0; rejected = 0; sum = nought; worst = nought }

-- the larger of two residuals
abbrev pub larger : Float → Float → Float
larger a b = cond (lt a b) b a

-- Tally 1 and 2: a card counts as solved, refused or rejected; one that counts as solved, and no other, has a residual, in seconds
abbrev pub counted : Running → Said → Running
counted n (solved residual) = record { solved = n.solved + 1; refused = n.refused; rejected = n.rejected; sum = n.sum ⊕ residual; worst = larger n.worst residual }
counted n refused = record { solved = n.solved; refused = n.refused + 1; rejected = n.rejected; sum = n.sum; worst = n.worst }
counted n (rejected k) = record { solved = n.solved; refused = n.refused; rejected = n.rejected + 1; sum = n.sum; worst = n.worst }

-- Tally 2: in deck order
unfoldable pub counted_all : Running → List Said → Running
counted_all n [] = n
counted_all n (v ∷ vs) = counted_all (counted n v) vs

-- mean and worst, in seconds, or neither
pub data Residuals : Type 0 where
  absent : Residuals
  known : (mean worst : Float) → Residuals

-- Tally 2: the sum of the residuals over the number of solved cards
abbrev pub mean_residual : Running → Float
mean_residual n = n.sum ⊘ of_int binary64 (pos n.solved)

-- Tally 2 and 3: mean and worst; where no card is solved neither exists
unfoldable pub residuals_of : Running → Residuals
residuals_of n = cond (eqb n.solved 0) absent (known (mean_residual n) n.worst)

abbrev pub totals_of : Running → Totals
totals_of n = record { solved = n.solved; refused = n.refused; rejected = n.rejected }

-- the tally of a deck's verdicts
abbrev pub tally_of : List Said → Totals × Residuals
tally_of verdicts = let n = counted_all nothing verdicts in (totals_of n, residuals_of n)
