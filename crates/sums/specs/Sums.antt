-- The line of C2 and C3 at z: RULES, Lines 7. Definitions only.
use Rattle.std.specs.Prelude.{ℕ, List, [], ◌∷◌, Float}
use Rattle.rows.specs.Rows.{Checked, pass, refuse, onward}
use Rattle.pieces.specs.Pieces.{joined}
use Rattle.text.specs.Text.{text, number}
use Rattle.universal.specs.Series.{series_of}
use Rattle.sheets.specs.Sheets.{refusal_line}

-- both sums, or the refusal
unfoldable pub sums_at : (z : Float) → Checked (Float × Float)
sums_at z =
    onward (series_of 2 z) (λ c2.
    onward (series_of 3 z) (λ c3.
    pass (c2, c3)))

-- Lines 7: `series C2 C3`, or a refusal
abbrev pub sums_line : Checked (Float × Float) → List ℕ
sums_line (pass c) = joined (text "series" ∷ number c.0 ∷ number c.1 ∷ text "\n" ∷ [])
sums_line (refuse k) = refusal_line k
