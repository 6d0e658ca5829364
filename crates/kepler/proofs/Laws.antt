-- The laws of Kepler's answers: those of any search (`crates/search/proofs/Answers.antt`), of the time of a scaled problem that passed the entry
-- tests and of the state that x unfolds to. Every number of a refusal is above 1 and at most 108 (`refusal_numbered`); one of
-- 101 to 108 names the first number given that is not finite, and each such one is named (`names_first`, `first_named`). No guess comes to functions
-- that are refused, and neither does the far end: the answer is that of the functions as they are worked whatever z is (`worked_answer`).
use mathlib.Core.Path.{◌≡◌, refl, ap, ◌∙◌}
use Prim.Native.Nat.{ℕ, ◌≤◌}
use lib.Ieee.{Float}
use Rattle.search.specs.declared.Bracket.{Bracket}
use Rattle.search.specs.Search.{search_of}
use Rattle.search.specs.Answers.{solved, refused, refused_with_bracket, answer_from}
use Rattle.search.proofs.Hunt.{Names}
use Rattle.search.proofs.Answers as search
use Rattle.search.proofs.Answers.{Fair, guesses_in, RefusalHas}
use Rattle.conic.specs.declared.Problem.{Problem}
use Rattle.conic.specs.declared.Scaled.{Scaled}
use Rattle.conic.specs.declared.State.{State}
use Rattle.rows.specs.Rows.{pass, refuse}
use Rattle.conic.specs.Said.{problem_numbers, input_number}
use Rattle.conic.specs.TimeAndRatio.{time_at}
use Rattle.conic.specs.Unfolding.{arrival_at}
use Rattle.conic.proofs.Worked.{worked_time, worked_arrival, worked_time_lem, worked_arrival_lem}
use Rattle.conic.proofs.Arrival.{arrival_refuses}
use Rattle.units.proofs.Places.{FirstNotFinite}
use Rattle.entry.specs.Entry.{entry_by, entry_of}
use Rattle.entry.proofs.Refusals.{Others, AtFirst, entry_refuses, Numbered, others_numbered, first_numbered, NamesFirst, no_input, others_name, first_names, first_refuses}
use Rattle.entry.proofs.Passed.{entered}
use Rattle.entry.proofs.Fair.{fair}
use Rattle.entry.proofs.Range.{bracket_works, worked_entry}
use Rattle.kepler.specs.Kepler.{wanted_time, kepler_of}

abbrev pub IsSolved : Problem → (x : Float) → State → Type 0
IsSolved p x state = search.IsSolved time_at wanted_time arrival_at (entry_of p) x state

abbrev pub IsNamed : Problem → (k n : ℕ) (lo hi : Float) → Type 0
IsNamed p k n lo hi = search.IsNamed time_at wanted_time p.limit (entry_of p) k n lo hi

module _ (p : Problem) where
  least : (o : Scaled) (b : Bracket) → entry_of p ≡ pass (o, b) → 1 ≤ p.limit
  least o b h = (entered p o b h).least

  starts_fair : (o : Scaled) (b : Bracket) → entry_of p ≡ pass (o, b) → Fair (time_at o) o.t b
  starts_fair o b h = fair p o b (entered p o b h)

  pub refused_before : (k : ℕ) → entry_of p ≡ refuse k → kepler_of p ≡ refused k 0
  unfolding kepler_of
  refused_before = search.refused_before time_at wanted_time arrival_at p.limit (entry_of p)

  pub counts : (o : Scaled) (b : Bracket) → entry_of p ≡ pass (o, b) → (1 ≤ guesses_in (kepler_of p)) × (guesses_in (kepler_of p) ≤ p.limit)
  unfolding kepler_of
  counts = search.counts time_at wanted_time arrival_at p.limit (entry_of p) least

  module _ {P : ℕ → Type 0} (others : Others P) (p3 : P 3) (p8 : P 8) (p9 : P 9) (p10 : P 10) (p11 : P 11) (at_first : AtFirst P (problem_numbers p)) where
    refusals_have : RefusalHas P P (kepler_of p)
    unfolding kepler_of
    refusals_have = search.refusal_numbered time_at wanted_time arrival_at p.limit (entry_of p) P others.p6 p9 p10 (entry_refuses others p3 p8 p at_first) (arrival_refuses p11 others.p6)

  pub refusal_numbered : RefusalHas Numbered Numbered (kepler_of p)
  refusal_numbered = refusals_have others_numbered tt tt tt tt tt (first_numbered p.mu p.r p.v p.dt)

  pub names_first : RefusalHas (NamesFirst (problem_numbers p)) (NamesFirst (problem_numbers p)) (kepler_of p)
  names_first = refusals_have (others_name (problem_numbers p)) (no_input 3 refl) (no_input 8 refl) (no_input 9 refl) (no_input 10 refl) (no_input 11 refl) (first_names (problem_numbers p))

  pub first_named : (place : ℕ) → FirstNotFinite (problem_numbers p) place → kepler_of p ≡ refused (input_number place) 0
  first_named place f = refused_before (input_number place) (first_refuses p place f)

  pub times_kept : (o : Scaled) (b : Bracket) → entry_of p ≡ pass (o, b) → (new : Bracket) → Names (search_of (time_at o) o.t p.limit b) new → (new.lo.time ≡ time_at o new.lo.x) × (new.hi.time ≡ time_at o new.hi.x)
  times_kept = search.times_kept time_at wanted_time arrival_at p.limit (entry_of p) least starts_fair

  pub solved_means : (x : Float) (n : ℕ) (state : State) → kepler_of p ≡ solved x n state → IsSolved p x state
  unfolding kepler_of
  solved_means = search.solved_means time_at wanted_time arrival_at p.limit (entry_of p) least starts_fair

  pub bracket_means : (k n : ℕ) (lo hi : Float) → kepler_of p ≡ refused_with_bracket k n lo hi → IsNamed p k n lo hi
  unfolding kepler_of
  bracket_means = search.bracket_means time_at wanted_time arrival_at p.limit (entry_of p) least starts_fair

  pub worked_answer : kepler_of p ≡ answer_from worked_time wanted_time worked_arrival p.limit (entry_by worked_time p)
  unfolding kepler_of
  worked_answer = search.same_answer time_at wanted_time arrival_at p.limit (entry_of p) least starts_fair worked_time worked_arrival
      (λ o b h x i. let works = (bracket_works p o b (entered p o b h) x i).1 in (worked_time_lem o x works, worked_arrival_lem o x works))
      ∙ ap (answer_from worked_time wanted_time worked_arrival p.limit) (worked_entry p)
