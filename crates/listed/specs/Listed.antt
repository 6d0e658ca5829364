-- The lines with which a deck's listing ends: RULES, The check program's listing, "The listing" below. Definitions only.
use Rattle.std.specs.Prelude.{ℕ, List, [], ◌∷◌}
use Rattle.pieces.specs.Pieces.{joined}
use Rattle.text.specs.Text.{text, count, number}
use Rattle.deck.specs.declared.Totals.{Totals}
use Rattle.deck.specs.Tally.{Residuals, absent, known}

-- The listing 3: the three totals
abbrev pub totals_line : Totals → List ℕ
totals_line n = joined (text "solved" ∷ count n.solved ∷ text " refused" ∷ count n.refused ∷ text " rejected" ∷ count n.rejected ∷ text "\n" ∷ [])

-- The listing 4: mean and worst, in seconds, or that there is neither
abbrev pub residual_lines : Residuals → List ℕ
residual_lines absent = text "mean none\nworst none\n"
residual_lines (known mean worst) = joined (text "mean" ∷ number mean ∷ text "\nworst" ∷ number worst ∷ text "\n" ∷ [])
