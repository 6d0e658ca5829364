-- The verdict on a solved transfer does not come to functions that are refused, at an end of the bracket or at its z, which is looked at in 0 to 36
-- alone: it is that of the functions as they are worked whatever z is. So no refusal of the series, 60, is ever the verdict 6.
use mathlib.Core.Path.{◌≡◌, ap, ◌∙◌}
use mathlib.Core.Bool.{true}
use lib.Ieee.{Float, binary64}
use lib.Ieee.Bits.{of_bits-fits}
use Rattle.words.specs.Words.{value_at}
use Rattle.rows.specs.Rows.{Checked, pass, onward}
use Rattle.rows.proofs.Laws.{onward_same}
use Rattle.search.specs.declared.Bracket.{Bracket}
use Rattle.search.specs.Search.{within}
use Rattle.arc.specs.declared.Transfer.{Transfer}
use Rattle.arc.specs.declared.Scaled.{Scaled}
use Rattle.arc.specs.Arc.{time_at, velocity_at}
use Rattle.arc.proofs.Worked.{worked_time, worked_velocity, worked_time_lem, worked_velocity_lem}
use Rattle.arc_entry.specs.ArcEntry.{entry_by, entry_of}
use Rattle.arc_entry.proofs.Passed.{entered}
use Rattle.arc_entry.proofs.Fair.{fair, in_start_between}
use Rattle.arc_entry.proofs.Range.{bracket_works, worked_entry}
use Rattle.card.specs.Fields.{Parts, transfer_of, z_of}
use Rattle.compared.specs.Compared.{answered_by}
use Rattle.compared.proofs.Answered.{x_finite, answered_same}
use Rattle.transfer_verdict.specs.TransferVerdict.{same_velocity, at_z, transfer_card}

module _ (card : Parts) where
  abbrev z : Float
  z = z_of card.answer

  -- the tests at z, with T and velocity as they are worked whatever z is
  abbrev pub worked_at_z : Scaled × Bracket → Checked Float
  worked_at_z (o, start) = answered_by (worked_time o) o.t o.f4 (worked_velocity o) (same_velocity card.answer) start z

  module _ (q : Transfer) where
    alike : (o : Scaled) (start : Bracket) → entry_of q ≡ pass (o, start) → within start z ≡ true → (time_at o z ≡ worked_time o z) × (velocity_at o z ≡ worked_velocity o z)
    alike o start h w =
        let e = entered q o start h in
        let finite = x_finite (time_at o) o.t (velocity_at o) (same_velocity card.answer) start z (fair q o start e) w in
        let between = in_start_between q o start e z w in
        let works = (bracket_works z (of_bits-fits binary64 (value_at 8 card.answer 0), finite) between.0 between.1).1 in
        (worked_time_lem o z works, worked_velocity_lem o z works)

    at_z_lem : (e : Scaled × Bracket) → entry_of q ≡ pass e → at_z card.answer e.0 e.1 ≡ worked_at_z e
    unfolding at_z
    at_z_lem (o, start) h = answered_same (time_at o) o.t (velocity_at o) (same_velocity card.answer) start z (worked_time o) (worked_velocity o) o.f4 (alike o start h)

  pub worked_card : transfer_card card ≡ onward (transfer_of card.question) (λ q. onward (entry_by worked_time q) worked_at_z)
  unfolding transfer_card
  worked_card =
      onward_same (transfer_of card.question) (λ q. onward (entry_of q) (λ e. at_z card.answer e.0 e.1)) (λ q. onward (entry_by worked_time q) worked_at_z)
      (λ q h. onward_same (entry_of q) (λ e. at_z card.answer e.0 e.1) worked_at_z (at_z_lem q) ∙ ap (λ (c : Checked (Scaled × Bracket)). onward c worked_at_z) (worked_entry q))
