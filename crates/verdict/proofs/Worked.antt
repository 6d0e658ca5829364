-- The verdict on a solved card does not come to functions that are refused, at the far end of its problem or at its x, which is looked at in the
-- starting bracket alone: it is that of the functions as they are worked whatever z is. So no refusal of the series, 60, is ever the verdict 6.
use mathlib.Core.Path.{◌≡◌, ap, ◌∙◌}
use mathlib.Core.Bool.{true}
use lib.Dec.{eqb}
use lib.Ieee.{Float, binary64}
use lib.Ieee.Bits.{of_bits-fits}
use Rattle.words.specs.Words.{value_at}
use Rattle.rows.specs.Rows.{Checked, pass, must, onward}
use Rattle.rows.proofs.Laws.{onward_same}
use Rattle.search.specs.declared.Bracket.{Bracket}
use Rattle.search.specs.Search.{within}
use Rattle.conic.specs.declared.Scaled.{Scaled}
use Rattle.conic.specs.TimeAndRatio.{time_at}
use Rattle.conic.specs.Unfolding.{arrival_at}
use Rattle.conic.proofs.Worked.{worked_time, worked_arrival, worked_time_lem, worked_arrival_lem}
use Rattle.entry.specs.Entry.{entry_by, entry_of}
use Rattle.entry.proofs.Passed.{entered}
use Rattle.entry.proofs.Range.{bracket_works, worked_entry}
use Rattle.card.specs.Fields.{Parts, problem_of, spare_of, x_of}
use Rattle.compared.specs.Compared.{answered_by}
use Rattle.compared.proofs.Answered.{x_finite, answered_same}
use Rattle.verdict.specs.Verdict.{same_state, at_x, solved_card}
use Rattle.verdict.proofs.Tests.{starts_fair}

module _ (card : Parts) where
  abbrev x : Float
  x = x_of card.answer

  -- the tests at x, with T and arrival as they are worked whatever z is
  abbrev pub worked_at_x : Scaled × Bracket → Checked Float
  worked_at_x (o, start) = answered_by (worked_time o) o.t o.f4 (worked_arrival o) (same_state card.answer) start x

  alike : (o : Scaled) (start : Bracket) → entry_of (problem_of card.question) ≡ pass (o, start) → within start x ≡ true → (time_at o x ≡ worked_time o x) × (arrival_at o x ≡ worked_arrival o x)
  alike o start h w =
      let finite = x_finite (time_at o) o.t (arrival_at o) (same_state card.answer) start x (starts_fair card.question o start h) w in
      let works = (bracket_works (problem_of card.question) o start (entered (problem_of card.question) o start h) x ((of_bits-fits binary64 (value_at 8 card.answer 0), finite), w)).1 in
      (worked_time_lem o x works, worked_arrival_lem o x works)

  at_x_alike : (e : Scaled × Bracket) → entry_of (problem_of card.question) ≡ pass e → at_x card.answer e.0 e.1 ≡ worked_at_x e
  unfolding at_x
  at_x_alike (o, start) h = answered_same (time_at o) o.t (arrival_at o) (same_state card.answer) start x (worked_time o) (worked_arrival o) o.f4 (alike o start h)

  pub worked_card : solved_card card ≡ must (eqb (spare_of card.question) 0) 23 (onward (entry_by worked_time (problem_of card.question)) worked_at_x)
  unfolding solved_card
  worked_card = ap (must (eqb (spare_of card.question) 0) 23) (onward_same (entry_of (problem_of card.question)) (λ e. at_x card.answer e.0 e.1) worked_at_x at_x_alike ∙ ap (λ (c : Checked (Scaled × Bracket)). onward c worked_at_x) (worked_entry (problem_of card.question)))
