-- The laws of a transfer's answers: those of any search (`crates/search/proofs/Answers.antt`), of the time along the arc and of the velocity that z
-- comes to. A refusal's number is 9 or 10 where it names a bracket, and else one of eight (`refusal_numbered`); a solved z and a named bracket lie
-- in 0 to 36 (`solved_between`, `named_between`). Neither an end nor a guess comes to functions that are refused: the answer is that of the
-- functions as they are worked whatever z is (`worked_answer`).
use mathlib.Core.Path.{◌≡◌, ap, ◌∙◌}
use mathlib.Core.Bool.{true}
use Prim.Native.Nat.{ℕ, ◌≤◌}
use lib.Ieee.{Float, le}
use Rattle.search.specs.declared.Bracket.{Bracket}
use Rattle.search.specs.Search.{search_of}
use Rattle.search.specs.Answers.{solved, refused, refused_with_bracket, answer_from}
use Rattle.exact.specs.Numbers.{nought}
use Rattle.search.proofs.Hunt.{Names}
use Rattle.search.proofs.Laws.{In}
use Rattle.search.proofs.Answers as search
use Rattle.search.proofs.Answers.{Fair, guesses_in, RefusalHas}
use Rattle.rows.specs.Rows.{pass, refuse}
use Rattle.vectors.specs.declared.Vector.{Vector}
use Rattle.arc.specs.declared.Transfer.{Transfer}
use Rattle.arc.specs.declared.Scaled.{Scaled}
use Rattle.arc.specs.Arc.{time_at, velocity_at}
use Rattle.arc.proofs.Departing.{velocity_refuses}
use Rattle.arc.proofs.Worked.{worked_time, worked_velocity, worked_time_lem, worked_velocity_lem}
use Rattle.arc_entry.specs.ArcEntry.{thirty_six, entry_by, entry_of}
use Rattle.arc_entry.proofs.Refusals.{Eight, entry_refuses}
use Rattle.arc_entry.proofs.Passed.{entered}
use Rattle.arc_entry.proofs.Fair.{fair, in_start_between}
use Rattle.arc_entry.proofs.Range.{bracket_works, worked_entry}
use Rattle.lambert.specs.Lambert.{wanted_time, lambert_of}

abbrev pub IsSolved : Transfer → (z : Float) → Vector → Type 0
IsSolved q z velocity = search.IsSolved time_at wanted_time velocity_at (entry_of q) z velocity

abbrev pub IsNamed : Transfer → (k n : ℕ) (lo hi : Float) → Type 0
IsNamed q k n lo hi = search.IsNamed time_at wanted_time q.limit (entry_of q) k n lo hi

module _ (q : Transfer) where
  least : (o : Scaled) (b : Bracket) → entry_of q ≡ pass (o, b) → 1 ≤ q.limit
  least o b h = (entered q o b h).least

  starts_fair : (o : Scaled) (b : Bracket) → entry_of q ≡ pass (o, b) → Fair (time_at o) o.t b
  starts_fair o b h = fair q o b (entered q o b h)

  pub refused_before : (k : ℕ) → entry_of q ≡ refuse k → lambert_of q ≡ refused k 0
  unfolding lambert_of
  refused_before = search.refused_before time_at wanted_time velocity_at q.limit (entry_of q)

  pub counts : (o : Scaled) (b : Bracket) → entry_of q ≡ pass (o, b) → (1 ≤ guesses_in (lambert_of q)) × (guesses_in (lambert_of q) ≤ q.limit)
  unfolding lambert_of
  counts = search.counts time_at wanted_time velocity_at q.limit (entry_of q) least

  pub refusal_numbered : {P : ℕ → Type 0} (Q : ℕ → Type 0) → Eight P → Q 9 → Q 10 → RefusalHas P Q (lambert_of q)
  unfolding lambert_of
  refusal_numbered Q e nine ten = search.refusal_numbered time_at wanted_time velocity_at q.limit (entry_of q) Q e.p6 nine ten (entry_refuses e q) (velocity_refuses e.p6)

  pub times_kept : (o : Scaled) (b : Bracket) → entry_of q ≡ pass (o, b) → (new : Bracket) → Names (search_of (time_at o) o.t q.limit b) new → (new.lo.time ≡ time_at o new.lo.x) × (new.hi.time ≡ time_at o new.hi.x)
  times_kept = search.times_kept time_at wanted_time velocity_at q.limit (entry_of q) least starts_fair

  pub solved_means : (z : Float) (n : ℕ) (velocity : Vector) → lambert_of q ≡ solved z n velocity → IsSolved q z velocity
  unfolding lambert_of
  solved_means = search.solved_means time_at wanted_time velocity_at q.limit (entry_of q) least starts_fair

  pub bracket_means : (k n : ℕ) (lo hi : Float) → lambert_of q ≡ refused_with_bracket k n lo hi → IsNamed q k n lo hi
  unfolding lambert_of
  bracket_means = search.bracket_means time_at wanted_time velocity_at q.limit (entry_of q) least starts_fair

  -- the starting bracket is 0 to 36, so a solved z and the ends of a named bracket lie there
  between : {o : Scaled} {b : Bracket} → entry_of q ≡ pass (o, b) → (z : Float) → In b z → (le nought z ≡ true) × (le z thirty_six ≡ true)
  between {o} {b} h z i = in_start_between q o b (entered q o b h) z i.1

  pub solved_between : {z : Float} {velocity : Vector} → IsSolved q z velocity → (le nought z ≡ true) × (le z thirty_six ≡ true)
  solved_between {z} s = between s.entry z s.in_start

  pub named_between : {k n : ℕ} {lo hi : Float} → IsNamed q k n lo hi → (le nought lo ≡ true) × (le hi thirty_six ≡ true)
  named_between {lo = lo} {hi = hi} s = ((between s.entry lo s.lo_in).0, (between s.entry hi s.hi_in).1)

  pub worked_answer : lambert_of q ≡ answer_from worked_time wanted_time worked_velocity q.limit (entry_by worked_time q)
  unfolding lambert_of
  worked_answer = search.same_answer time_at wanted_time velocity_at q.limit (entry_of q) least starts_fair worked_time worked_velocity same ∙ ap (answer_from worked_time wanted_time worked_velocity q.limit) (worked_entry q)
    where
      same : (o : Scaled) (b : Bracket) → entry_of q ≡ pass (o, b) → (z : Float) → In b z → (time_at o z ≡ worked_time o z) × (velocity_at o z ≡ worked_velocity o z)
      same o b h z i =
          let at = between h z i in
          let works = (bracket_works z i.0 at.0 at.1).1 in
          (worked_time_lem o z works, worked_velocity_lem o z works)
