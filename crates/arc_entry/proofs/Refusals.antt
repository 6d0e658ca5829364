-- The numbers with which a transfer is refused before the first guess: 1, 2, 3, 5, 6, 50, 51 and 52, and no other (`entry_refuses`: whatever these
-- eight have, each refusal's number has). Each number stands beside its test, so the laws of rows follow the definitions line by line.
use Prim.Native.Nat.{ℕ}
use lib.Ieee.{Float}
use Rattle.arc.specs.declared.Way.{Way}
use Rattle.arc.specs.declared.Transfer.{Transfer}
use Rattle.arc.specs.declared.Scaled.{Scaled}
use Rattle.units.specs.Units.{radius_of, unit_of}
use Rattle.units.proofs.Places.{refuses_first}
use Rattle.units.proofs.Refusals.{root_refuses, measure_refuses}
use Rattle.rows.proofs.Laws.{Refuses, passes, must_refuses, onward_refuses}
use Rattle.arc.specs.Arc.{time_at}
use Rattle.arc_entry.specs.ArcEntry.{factor_of, scaled_by, scaled_from, scaled_of, start_by, input_number, entry_of}

-- what each of the eight numbers has
pub record Eight (P : ℕ → Type 0) : Type 0 where
  pub p1 : P 1
  pub p2 : P 2
  pub p3 : P 3
  pub p5 : P 5
  pub p6 : P 6
  pub p50 : P 50
  pub p51 : P 51
  pub p52 : P 52

module _ {P : ℕ → Type 0} (e : Eight P) where
  factor_refuses : (w : Way) (rho c : Float) → Refuses P (factor_of w rho c)
  unfolding factor_of
  factor_refuses w rho c = must_refuses _ 50 _ e.p50 (onward_refuses _ _ (root_refuses 6 _ e.p6) (λ k. passes))

  by_refuses : (q : Transfer) (r0 m2 f1 f4 : Float) → Refuses P (scaled_by q r0 m2 f1 f4)
  unfolding scaled_by
  by_refuses q r0 m2 f1 f4 = must_refuses _ 6 _ e.p6 (onward_refuses _ _ (factor_refuses q.way _ _) (λ a. passes))

  from_refuses : (q : Transfer) (r0 m2 : Float) → Refuses P (scaled_from q r0 m2)
  unfolding scaled_from
  from_refuses q r0 m2 = onward_refuses _ _ (measure_refuses 6 6 (unit_of q.mu r0) e.p6 e.p6) (λ f. by_refuses q r0 m2 f.0 f.1)

  scaled_refuses : (q : Transfer) → Refuses P (scaled_of q)
  unfolding scaled_of
  scaled_refuses q =
      onward_refuses _ _ (measure_refuses 5 6 (radius_of q.r1) e.p5 e.p6)
      (λ r0. onward_refuses _ _ (measure_refuses 5 6 (radius_of q.r2) e.p5 e.p6) (λ m2. from_refuses q r0 m2))

  start_refuses : (o : Scaled) → Refuses P (start_by time_at o)
  unfolding start_by
  start_refuses o = must_refuses _ 6 _ e.p6 (must_refuses _ 51 _ e.p51 (must_refuses _ 6 _ e.p6 (must_refuses _ 52 _ e.p52 passes)))

  pub entry_refuses : (q : Transfer) → Refuses P (entry_of q)
  unfolding entry_of
  entry_refuses q = onward_refuses _ _ (refuses_first input_number _ (λ place f. e.p1)) (λ finite. must_refuses _ 2 _ e.p2 (must_refuses _ 3 _ e.p3 (onward_refuses _ _ (scaled_refuses q) start_refuses)))
