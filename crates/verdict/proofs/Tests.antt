-- The tests of a card, both ways: a solved card passes exactly where each of them holds (`solved_is`, `solved_passes`), and so does a refused one
-- (`refused_tests`). That x is finite follows from its place in the starting bracket, whose ends are.
use mathlib.Core.Path.{◌≡◌, refl, sym, ap, subst}
use mathlib.Core.Logic.{◌↔◌}
use mathlib.Core.Bool.{true, ◌&&◌}
use mathlib.Core.List.{List}
use Prim.Native.Nat.{ℕ}
use borrow.Author.Tests.{eqb-true, eq-eqb}
use lib.Dec.{eqb, eqb→eq}
use lib.Ieee.{Float}
use lib.Ieee.Fits.{eq→eqb}
use Rattle.exact.specs.Numbers.{is_finite, is_near}
use Rattle.exact.proofs.Basics.{both}
use Rattle.search.specs.declared.Bracket.{Bracket}
use Rattle.search.specs.Search.{within}
use Rattle.search.proofs.Answers.{Fair}
use Rattle.conic.specs.declared.State.{State}
use Rattle.conic.specs.declared.Scaled.{Scaled}
use Rattle.rows.specs.Rows.{pass, must, onward}
use Rattle.conic.specs.TimeAndRatio.{time_at}
use Rattle.conic.specs.Unfolding.{state_at, arrival_at}
use Rattle.entry.specs.Entry.{entry_of}
use Rattle.rows.proofs.Laws.{test_passed, rows_passed}
use Rattle.conic.proofs.Arrival.{Arrives, arrives}
use Rattle.entry.proofs.Passed.{entered}
use Rattle.entry.proofs.Fair.{fair}
use Rattle.kepler.specs.Kepler.{kepler_of}
use Rattle.card.specs.declared.Kind.TheVariants as kind
use Rattle.card.specs.Fields.{Parts, problem_of, spare_of, x_of, refusal_of, last_spare_of}
use Rattle.ruling.specs.Said.{solved}
use Rattle.compared.specs.Said.{as_solved}
use Rattle.compared.specs.Compared.{in_seconds}
use Rattle.compared.proofs.Answered as compared
use Rattle.compared.proofs.Answered.{answered_is, answered_passes}
use Rattle.verdict.specs.Verdict.{same_state, at_x, solved_card, is_refused_as, refused_card, verdict_on}
use Rattle.verdict.proofs.StateWords.{state_words, words_of, same_state_lem}

-- ---- a solved card

-- the tests of a solved card whose problem passed the entry tests
pub record Passes (card : Parts) (o : Scaled) (start : Bracket) : Type 0 where
  pub spare_is : spare_of card.question ≡ 0
  pub entry : entry_of (problem_of card.question) ≡ pass (o, start)
  pub x_in : within start (x_of card.answer) ≡ true
  pub time_finite : is_finite (time_at o (x_of card.answer)) ≡ true
  pub near : is_near (time_at o (x_of card.answer)) o.t ≡ true
  pub arrival : Arrives o (x_of card.answer) (state_at o (x_of card.answer))
  pub state_bits : state_words card.answer ≡ words_of (state_at o (x_of card.answer))

abbrev pub residual_of : (answer : List ℕ) → Scaled → Float
residual_of answer o = in_seconds (time_at o (x_of answer)) o.t o.f4

-- the tests that solved transfers share, at this card
abbrev pub Shared : (answer : List ℕ) → Scaled → Bracket → State → Type 0
Shared answer o start state = compared.Passes (time_at o) o.t (arrival_at o) (same_state answer) start (x_of answer) state

at_x_is : (card : Parts) (o : Scaled) (start : Bracket) (state : State) → spare_of card.question ≡ 0 → entry_of (problem_of card.question) ≡ pass (o, start) → Shared card.answer o start state → Passes card o start
at_x_is card o start state s e p =
    let x = x_of card.answer in
    let a = (arrives o x state).0 p.finding in
    let arrives : Arrives o x (state_at o x) × (state_words card.answer ≡ words_of (state_at o x)) =
    subst (λ (s : State). Arrives o x s × (state_words card.answer ≡ words_of s)) (sym a.state_is) (a, (same_state_lem card.answer state).0 p.same_found) in
    record { spare_is = s; entry = e; x_in = p.x_in; time_finite = p.time_finite; near = p.near; arrival = arrives.0; state_bits = arrives.1 }

pub solved_is : (card : Parts) (r : Float) → solved_card card ≡ pass r → (o : Scaled) × (start : Bracket) × Passes card o start × (r ≡ residual_of card.answer o)
unfolding solved_card at_x
solved_is card r h =
    let rest = onward (entry_of (problem_of card.question)) (λ e. at_x card.answer e.0 e.1) in
    let first = test_passed (eqb (spare_of card.question) 0) 23 rest h in
    let E = rows_passed (entry_of (problem_of card.question)) (λ e. at_x card.answer e.0 e.1) first.1 in
    let o = E.0.0 in
    let start = E.0.1 in
    let A = answered_is (time_at o) o.t (arrival_at o) (same_state card.answer) start (x_of card.answer) o.f4 r E.2 in
    (o, start, at_x_is card o start A.0 (eqb-true (spare_of card.question) 0 first.0) E.1 A.1, A.2)

-- and back
pub shared : (card : Parts) (o : Scaled) (start : Bracket) → Passes card o start → Shared card.answer o start (state_at o (x_of card.answer))
shared card o start p =
    let x = x_of card.answer in
    record { x_in = p.x_in; time_finite = p.time_finite; near = p.near; finding = (arrives o x (state_at o x)).1 p.arrival; same_found = (same_state_lem card.answer (state_at o x)).1 p.state_bits }

-- the bracket of a problem that passed is fair
pub starts_fair : (question : List ℕ) (o : Scaled) (start : Bracket) → entry_of (problem_of question) ≡ pass (o, start) → Fair (time_at o) o.t start
starts_fair question o start e = fair (problem_of question) o start (entered (problem_of question) o start e)

pub solved_passes : (card : Parts) (o : Scaled) (start : Bracket) → Passes card o start → verdict_on kind.Solved card ≡ solved (residual_of card.answer o)
unfolding verdict_on solved_card at_x must onward
solved_passes card o start p =
    let f = starts_fair card.question o start p.entry in
    let passes = answered_passes (time_at o) o.t (arrival_at o) (same_state card.answer) start (x_of card.answer) f o.f4 (shared card o start p) in
    rw (eq-eqb (spare_of card.question) 0 p.spare_is, p.entry) (ap as_solved passes)

-- ---- a refused card

pub refused_tests : (card : Parts) → (refused_card card ≡ pass tt) ↔ ((spare_of card.question ≡ 0) × (last_spare_of card.answer ≡ 0) × (is_refused_as (kepler_of (problem_of card.question)) (refusal_of card.answer) ≡ true))
unfolding refused_card must
refused_tests card = (there, λ e. rw ((both (eqb (spare_of card.question) 0) (eqb (last_spare_of card.answer) 0)).1 (eq→eqb e.0, eq→eqb e.1), e.2) refl)
  where
    there : refused_card card ≡ pass tt → (spare_of card.question ≡ 0) × (last_spare_of card.answer ≡ 0) × (is_refused_as (kepler_of (problem_of card.question)) (refusal_of card.answer) ≡ true)
    there h =
        let given = is_refused_as (kepler_of (problem_of card.question)) (refusal_of card.answer) in
        let first = test_passed (eqb (spare_of card.question) 0 && eqb (last_spare_of card.answer) 0) 23 (must given 24 (pass tt)) h in
        let zeros = (both (eqb (spare_of card.question) 0) (eqb (last_spare_of card.answer) 0)).0 first.0 in
        (eqb→eq (spare_of card.question) 0 zeros.0, eqb→eq (last_spare_of card.answer) 0 zeros.1, (test_passed given 24 (pass tt) first.1).0)
