-- The numbers with which an entry refuses: those of the eight numbers given, at the first that is not finite; 2, 5, 6, 7 and 14; for Kepler 3 and 8,
-- and for Theta 4 (`entry_refuses`, `angle_entry_refuses`: whatever these have, each refusal's number has). So each is above 1 and at most 108
-- (`Numbered`); one of 101 to 108 names the first that is not finite (`NamesFirst`), and that one is refused with its number (`first_refuses`,
-- `first_refuses_angle`). Each number stands beside its test, so the laws of rows follow the definitions line by line.
use mathlib.Core.Path.{◌≡◌, refl, sym, ◌∙◌}
use mathlib.Core.Bool.{true, false, true≢false}
use mathlib.Core.List.{List}
use Prim.Native.Nat.{ℕ}
use native.Mathlib.Omega.{arith}
use lib.Dec.{ltb, lt→ltb}
use lib.Ieee.{Float, le}
use Rattle.exact.specs.Numbers.{magnitude}
use Rattle.exact.proofs.Basics.{passed, both}
use Rattle.vectors.specs.declared.Vector.{Vector}
use Rattle.conic.specs.declared.Problem.{Problem}
use Rattle.conic.specs.declared.Scaled.{Scaled}
use Rattle.conic.specs.TimeAndRatio.{time_at}
use Rattle.conic.specs.Said.{problem_numbers, input_number, inputs, is_input}
use Rattle.entry.specs.Entry.{inputs_tested, tested_by, scaled_by, scaled_of, sixty_fourth, far_end_of, bracketed_by, start_by, entry_of, angle_entry_of}
use Rattle.units.specs.Units.{radius_of, unit_of}
use Rattle.vectors.specs.Vectors.{numbers_given}
use Rattle.units.proofs.Places.{FirstNotFinite, refuses_first, first_refused}
use Rattle.units.proofs.Refusals.{root_refuses, measure_refuses}
use Rattle.rows.specs.Rows.{refuse, onward}
use Rattle.rows.proofs.Laws.{Between, Refuses, passes, must_refuses, cond_refuses, onward_refuses}

-- what each number has that is not of the eight, and that Kepler and Theta share
pub record Others (P : ℕ → Type 0) : Type 0 where
  pub p2 : P 2
  pub p5 : P 5
  pub p6 : P 6
  pub p7 : P 7
  pub p14 : P 14

-- and what the eight have, each where it is given
abbrev pub AtFirst : (P : ℕ → Type 0) → List Float → Type 0
AtFirst P list = (place : ℕ) → FirstNotFinite list place → P (input_number place)

module _ {P : ℕ → Type 0} (o : Others P) where
  inputs_refuse : (mu : Float) (r v : Vector) (last : Float) → AtFirst P (numbers_given mu r v last) → Refuses P (inputs_tested mu r v last)
  unfolding inputs_tested
  inputs_refuse mu r v last at_first = onward_refuses _ _ (refuses_first input_number (numbers_given mu r v last) at_first) (λ finite. must_refuses _ 2 _ o.p2 passes)

  tested_refuses : (q : Float) (s : Scaled) → Refuses P (tested_by q s)
  unfolding tested_by
  tested_refuses q s = must_refuses _ 6 _ o.p6 (must_refuses _ 7 _ o.p7 passes)

  scaling_refuses : (r v : Vector) (dt r0 f1 f4 : Float) → Refuses P (scaled_by r v dt r0 f1 f4)
  unfolding scaled_by
  scaling_refuses r v dt r0 f1 f4 = must_refuses _ 6 _ o.p6 (tested_refuses _ _)

  scaled_refuses : (mu : Float) (r v : Vector) (dt : Float) → Refuses P (scaled_of mu r v dt)
  unfolding scaled_of
  scaled_refuses mu r v dt =
      onward_refuses _ _ (measure_refuses 5 14 (radius_of r) o.p5 o.p14)
      (λ r0. onward_refuses _ _ (measure_refuses 6 14 (unit_of mu r0) o.p6 o.p14) (λ f. scaling_refuses r v dt r0 f.0 f.1))

  far_end_refuses : (alpha : Float) → Refuses P (far_end_of alpha)
  unfolding far_end_of
  far_end_refuses alpha = cond_refuses (le (magnitude alpha) sixty_fourth) _ _ passes (onward_refuses _ _ (root_refuses 14 _ o.p14) (λ k. passes))

  module _ (p3 : P 3) (p8 : P 8) where
    bracket_refuses : (s : Scaled) (far time : Float) → Refuses P (bracketed_by s far time)
    unfolding bracketed_by
    bracket_refuses s far time = must_refuses _ 6 _ o.p6 (must_refuses _ 8 _ p8 passes)

    start_refuses : (time : Scaled → Float → Float) (s : Scaled) → Refuses P (start_by time s)
    unfolding start_by
    start_refuses time s = onward_refuses _ _ (far_end_refuses s.alpha) (λ x. bracket_refuses s _ _)

    pub entry_refuses : (p : Problem) → AtFirst P (problem_numbers p) → Refuses P (entry_of p)
    unfolding entry_of
    entry_refuses p at_first =
        onward_refuses _ _ (inputs_refuse p.mu p.r p.v p.dt at_first)
        (λ good. must_refuses _ 3 _ p3 (onward_refuses _ _ (scaled_refuses p.mu p.r p.v p.dt) (start_refuses time_at)))

  pub angle_entry_refuses : P 4 → (mu : Float) (r v : Vector) (a : Float) → AtFirst P (numbers_given mu r v a) → Refuses P (angle_entry_of mu r v a)
  unfolding angle_entry_of
  angle_entry_refuses p4 mu r v a at_first = onward_refuses _ _ (inputs_refuse mu r v a at_first) (λ good. must_refuses _ 4 _ p4 (scaled_refuses mu r v _))

-- ---- each is above 1 and at most 108

abbrev pub Numbered : ℕ → Type 0
Numbered k = Between 1 (input_number inputs) k

pub others_numbered : Others Numbered
others_numbered = record { p2 = tt; p5 = tt; p6 = tt; p7 = tt; p14 = tt }

pub first_numbered : (mu : Float) (r v : Vector) (last : Float) → AtFirst Numbered (numbers_given mu r v last)
first_numbered mu r v last place f =
    let k = input_number place in
    passed ((both (ltb 1 k) (ltb k (input_number inputs))).1 (lt→ltb 1 k (omega arith), lt→ltb k (input_number inputs) (omega (arith, f.inside))))

-- ---- the first number that is not finite

inputs_named : (mu : Float) (r v : Vector) (last : Float) (place : ℕ) → FirstNotFinite (numbers_given mu r v last) place → inputs_tested mu r v last ≡ refuse (input_number place)
unfolding inputs_tested onward
inputs_named mu r v last place f = rw (first_refused input_number (numbers_given mu r v last) place f) refl

pub first_refuses : (p : Problem) (place : ℕ) → FirstNotFinite (problem_numbers p) place → entry_of p ≡ refuse (input_number place)
unfolding entry_of onward
first_refuses p place f = rw (inputs_named p.mu p.r p.v p.dt place f) refl

pub first_refuses_angle : (mu : Float) (r v : Vector) (a : Float) (place : ℕ) → FirstNotFinite (numbers_given mu r v a) place → angle_entry_of mu r v a ≡ refuse (input_number place)
unfolding angle_entry_of onward
first_refuses_angle mu r v a place f = rw (inputs_named mu r v a place f) refl

-- and back: a refusal of one of the eight is of the first that is not finite
abbrev pub NamesFirst : List Float → ℕ → Type 0
NamesFirst list k = is_input k ≡ true → (place : ℕ) × (k ≡ input_number place) × FirstNotFinite list place

-- no other number is of the eight
pub no_input : {list : List Float} (k : ℕ) → is_input k ≡ false → NamesFirst list k
no_input k e h = absurd (true≢false (sym h ∙ e))

pub others_name : (list : List Float) → Others (NamesFirst list)
others_name list = record { p2 = no_input 2 refl; p5 = no_input 5 refl; p6 = no_input 6 refl; p7 = no_input 7 refl; p14 = no_input 14 refl }

pub first_names : (list : List Float) → AtFirst (NamesFirst list) list
first_names list place f h = (place, refl, f)
