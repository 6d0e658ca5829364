-- The numbers with which a solved transfer is rejected: 23, the transfer's own from before the first guess, 20, 21 and 22; never 9 or 10.
use mathlib.Core.List.{List}
use Prim.Native.Nat.{ℕ}
use lib.Dec.{eqb}
use Rattle.rows.proofs.Laws.{Refuses, passes, refuses, cond_refuses, onward_refuses}
use Rattle.search.specs.declared.Bracket.{Bracket}
use Rattle.arc.specs.declared.Scaled.{Scaled}
use Rattle.arc.proofs.Departing.{velocity_refuses}
use Rattle.arc_entry.proofs.Refusals.{Eight, entry_refuses}
use Rattle.card.specs.Fields.{Parts, way_of, transfer_of, z_of}
use Rattle.compared.proofs.Answered.{answered_refuses}
use Rattle.transfer_verdict.specs.TransferVerdict.{same_velocity, at_z, transfer_card}

module _ {P : ℕ → Type 0} (e : Eight P) (p20 : P 20) (p21 : P 21) (p22 : P 22) (p23 : P 23) where
  way_refuses : (n : ℕ) → Refuses P (way_of n)
  unfolding way_of
  way_refuses n = cond_refuses (eqb n 0) _ _ passes (cond_refuses (eqb n 1) _ _ passes (refuses p23))

  asked_refuses : (question : List ℕ) → Refuses P (transfer_of question)
  unfolding transfer_of
  asked_refuses question = onward_refuses _ _ (way_refuses _) (λ w. passes)

  at_z_refuses : (answer : List ℕ) (o : Scaled) (b : Bracket) → Refuses P (at_z answer o b)
  unfolding at_z
  at_z_refuses answer o b = answered_refuses _ o.t _ (same_velocity answer) b (z_of answer) o.f4 p20 e.p6 p21 p22 (velocity_refuses e.p6 o)

  pub transfer_refuses : (card : Parts) → Refuses P (transfer_card card)
  unfolding transfer_card
  transfer_refuses card = onward_refuses _ _ (asked_refuses card.question) (λ q. onward_refuses _ _ (entry_refuses e q) (λ s. at_z_refuses card.answer s.0 s.1))
