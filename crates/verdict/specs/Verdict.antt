-- The verdict on a card, from its kind and the bytes of what it asks and answers alone: RULES, Verdicts. Definitions only.
use Rattle.std.specs.Prelude.{ℕ, Bool, false, ◌&&◌, List, eqb, Float}
use Rattle.search.specs.declared.Bracket.{Bracket}
use Rattle.conic.specs.declared.State.{State}
use Rattle.conic.specs.declared.Scaled.{Scaled}
use Rattle.rows.specs.Rows.{Checked, pass, must, onward}
use Rattle.search.specs.Answers as answer
use Rattle.conic.specs.Said as conic
use Rattle.conic.specs.TimeAndRatio.{time_at}
use Rattle.conic.specs.Unfolding.{arrival_at}
use Rattle.entry.specs.Entry.{entry_of}
use Rattle.kepler.specs.Kepler.{kepler_of}
use Rattle.card.specs.declared.Kind.{Kind}
use Rattle.card.specs.declared.Kind.TheVariants as kind
use Rattle.version.specs.declared.Version.{Version}
use Rattle.card.specs.Fields.{Card, Parts, parts_of, problem_of, spare_of, x_of, position_from, velocity_from, refusal_of, last_spare_of}
use Rattle.ruling.specs.Said.{Said}
use Rattle.compared.specs.Said.{as_solved, as_refused}
use Rattle.compared.specs.Compared.{answered_by, same_words}
use Rattle.transfer_verdict.specs.TransferVerdict.{transfer_card}

-- the bits of a state against those of the answer
abbrev pub same_state : (answer : List ℕ) → State → Bool
same_state answer state = same_words answer position_from state.r && same_words answer velocity_from state.v

-- Verdicts 3 to 8: 20, 6, 21, then 11 and 6, as at every arrival, and 22. Tally 2: the unit is the problem's own
unfoldable pub at_x : (answer : List ℕ) → Scaled → Bracket → Checked Float
at_x answer o b = answered_by (time_at o) o.t o.f4 (arrival_at o) (same_state answer) b (x_of answer)

-- Verdicts 1 and 2: 23; then the refusal of the card's own problem, by the tests before the first guess; and the tests above. The first that
-- holds is the verdict
unfoldable pub solved_card : Parts → Checked Float
solved_card c =
    must (eqb (spare_of c.question) 0) 23
    (onward (entry_of (problem_of c.question)) (λ e.
    at_x c.answer e.0 e.1))

-- whether Kepler refuses with what this number means
abbrev pub is_refused_as : conic.Said → ℕ → Bool
is_refused_as (answer.solved x n state) k = false
is_refused_as (answer.refused why n) k = conic.is_meant_by why k
is_refused_as (answer.refused_with_bracket why n lo hi) k = conic.is_meant_by why k

-- Verdicts 9 to 11: 23 for either spare; 24 where Kepler does not refuse with what the card's number means; else accepted
unfoldable pub refused_card : Parts → Checked (Unit {0})
refused_card c =
    must (eqb (spare_of c.question) 0 && eqb (last_spare_of c.answer) 0) 23
    (must (is_refused_as (kepler_of (problem_of c.question)) (refusal_of c.answer)) 24
    (pass tt))

-- the verdict on a card, by its kind
unfoldable pub verdict_on : Kind → Parts → Said
verdict_on kind.Solved c = as_solved (solved_card c)
verdict_on kind.Refused c = as_refused (refused_card c)
verdict_on kind.Transfer c = as_solved (transfer_card c)

-- Verdicts 19: and on a card of a deck, whatever the deck's version
abbrev pub verdict_of : Version → Card → Said
verdict_of v c = verdict_on c.kind (parts_of v c.kind c.body)
