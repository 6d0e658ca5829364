-- The numbers with which Theta refuses: those of its entry, 12 and 11. So each is above 1 and at most 108 (`refusal_numbered`); one of 101 to 108
-- names the first number given that is not finite, and each such one is named (`names_first`, `first_named`). The functions at half the angle are
-- not refused, so that the answer is that of the functions as they are worked whatever z is (`worked_turn_lem`).
use mathlib.Core.Path.{◌≡◌, refl, ap}
use Prim.Native.Nat.{ℕ}
use lib.Dec.{T}
use lib.Ieee.{Float, binary64, fits}
use Rattle.exact.specs.Numbers.{◌⊘◌, one, two}
use Rattle.search.specs.Answers.{refused, with_found}
use Rattle.search.proofs.Answers.{RefusalHas, found_numbered}
use Rattle.rows.specs.Rows.{Checked, pass, onward}
use Rattle.rows.proofs.Laws.{Refuses, must_refuses, renumbered_refuses, onward_refuses, onward_same}
use Rattle.vectors.specs.declared.Vector.{Vector}
use Rattle.vectors.specs.Vectors.{numbers_given}
use Rattle.units.proofs.Places.{FirstNotFinite}
use Rattle.units.proofs.Refusals.{root_refuses}
use Rattle.universal.specs.Functions.{functions_at, worked_at}
use Rattle.units.specs.Units.{rooted}
use Rattle.conic.specs.declared.State.{State}
use Rattle.conic.specs.declared.Scaled.{Scaled}
use Rattle.conic.specs.Said.{input_number}
use Rattle.conic.proofs.Arrival.{unfolding_refuses}
use Rattle.entry.specs.Entry.{angle_entry_of}
use Rattle.entry.proofs.Refusals.{Others, AtFirst, angle_entry_refuses, Numbered, others_numbered, first_numbered, NamesFirst, no_input, others_name, first_names, first_refuses_angle}
use Rattle.entry.proofs.Passed.{angle_allowed}
use Rattle.theta.proofs.Range.{half_works}
use Rattle.theta.specs.Theta.{reached_state, turned_state, theta_of}

module _ (mu : Float) (r v : Vector) (a : Float) where
  module _ {P : ℕ → Type 0} (others : Others P) (p4 : P 4) (p11 : P 11) (p12 : P 12) (at_first : AtFirst P (numbers_given mu r v a)) where
    reaching_refuses : (o : Scaled) (k sh ch : Float) → Refuses P (reached_state o k sh ch)
    unfolding reached_state
    reaching_refuses o k sh ch = must_refuses _ 12 _ p12 (unfolding_refuses p11 others.p6 o _ _ _)

    turning_refuses : (o : Scaled) → Refuses P (turned_state o a)
    unfolding turned_state
    turning_refuses o = onward_refuses _ _ (renumbered_refuses 6 (functions_at (a ⊘ two) one) others.p6) (λ half. onward_refuses _ _ (root_refuses 14 _ others.p14) (λ k. reaching_refuses o k _ _))

    refusals_have : RefusalHas P P (theta_of mu r v a)
    unfolding theta_of
    refusals_have = found_numbered P a 0 (onward (angle_entry_of mu r v a) (λ o. turned_state o a)) (onward_refuses _ _ (angle_entry_refuses others p4 mu r v a at_first) turning_refuses)

  pub refusal_numbered : RefusalHas Numbered Numbered (theta_of mu r v a)
  refusal_numbered = refusals_have others_numbered tt tt tt (first_numbered mu r v a)

  pub names_first : RefusalHas (NamesFirst (numbers_given mu r v a)) (NamesFirst (numbers_given mu r v a)) (theta_of mu r v a)
  names_first = refusals_have (others_name _) (no_input 4 refl) (no_input 11 refl) (no_input 12 refl) (first_names _)

  pub first_named : (place : ℕ) → FirstNotFinite (numbers_given mu r v a) place → theta_of mu r v a ≡ refused (input_number place) 0
  unfolding theta_of onward
  first_named place f = rw (first_refuses_angle mu r v a place f) refl

  -- sh and ch as they are worked whatever z is
  abbrev worked_turn : Scaled → Checked State
  worked_turn o = let half = worked_at (a ⊘ two) one in onward (rooted 14 o.p) (λ k. reached_state o k half.u1 half.u0)

  turn_worked : T (fits binary64 a) → (o : Scaled) → angle_entry_of mu r v a ≡ pass o → turned_state o a ≡ worked_turn o
  unfolding turned_state onward
  turn_worked w o h = rw (half_works a w (angle_allowed mu r v a o h)).1 refl

  pub worked_turn_lem : T (fits binary64 a) → theta_of mu r v a ≡ with_found a 0 (onward (angle_entry_of mu r v a) worked_turn)
  unfolding theta_of
  worked_turn_lem w = ap (with_found a 0) (onward_same (angle_entry_of mu r v a) (λ o. turned_state o a) worked_turn (turn_worked w))
