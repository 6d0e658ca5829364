-- The verdict on a solved transfer, from the bytes of what it asks and answers alone: RULES, Verdicts 12 to 18. Definitions only.
use Rattle.std.specs.Prelude.{ℕ, Bool, List, Float}
use Rattle.rows.specs.Rows.{Checked, onward}
use Rattle.search.specs.declared.Bracket.{Bracket}
use Rattle.vectors.specs.declared.Vector.{Vector}
use Rattle.arc.specs.declared.Scaled.{Scaled}
use Rattle.arc.specs.Arc.{time_at, velocity_at}
use Rattle.arc_entry.specs.ArcEntry.{entry_of}
use Rattle.card.specs.Fields.{Parts, transfer_of, z_of, position_from}
use Rattle.compared.specs.Compared.{answered_by, same_words}

-- the velocity stands where a solved card has its position
abbrev pub same_velocity : (answer : List ℕ) → Vector → Bool
same_velocity answer v = same_words answer position_from v

-- Verdicts 14 to 18: 20, 6, 21, then 6 for the velocity and 22. Tally 2: the unit is the transfer's own
unfoldable pub at_z : (answer : List ℕ) → Scaled → Bracket → Checked Float
at_z answer o b = answered_by (time_at o) o.t o.f4 (velocity_at o) (same_velocity answer) b (z_of answer)

-- Verdicts 12 and 13: 23 for the way; then the refusal of the card's own transfer, by the tests before the first guess; and the tests above. The
-- first that holds is the verdict
unfoldable pub transfer_card : Parts → Checked Float
transfer_card c =
    onward (transfer_of c.question) (λ q.
    onward (entry_of q) (λ e.
    at_z c.answer e.0 e.1))
