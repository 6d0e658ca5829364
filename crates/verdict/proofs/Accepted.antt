-- What verdict 0 means, and what gets it: demand 3 of RULES. The tests of a card say it (`Tests`); the one on the times says that their exact
-- gap is at most 2^-36 + 2^-89, and a gap of at most 2^-36 passes it.
use mathlib.Core.Path.{◌≡◌, refl, sym, ap, subst}
use mathlib.Core.Bool.{true, true≢false}
use Prim.Native.Nat.{◌≤◌}
use lib.Ieee.{Float, binary64}
use lib.Ieee.Bits.{is_true}
use Rattle.exact.specs.Numbers.{is_finite, gap, in_steps, most_gap}
use Rattle.exact.proofs.Most.{AtMost}
use Rattle.search.specs.declared.Bracket.{Bracket}
use Rattle.search.specs.Search.{within}
use Rattle.conic.specs.declared.Scaled.{Scaled}
use Rattle.rows.specs.Rows.{Checked, pass, refuse}
use Rattle.conic.specs.TimeAndRatio.{time_at}
use Rattle.conic.specs.Unfolding.{state_at, arrival_at}
use Rattle.entry.specs.Entry.{entry_of}
use Rattle.entry.proofs.Passed.{entered}
use Rattle.conic.proofs.Arrival.{Arrives}
use Rattle.kepler.specs.Kepler.{kepler_of}
use Rattle.card.specs.declared.Kind.{Kind}
use Rattle.card.specs.declared.Kind.TheVariants as kind
use Rattle.card.specs.Fields.{Parts, problem_of, spare_of, x_of, refusal_of, last_spare_of}
use Rattle.ruling.specs.Said.{solved, number_in}
use Rattle.compared.specs.Said.{as_solved, as_refused}
use Rattle.compared.specs.Compared.{most_residual}
use Rattle.compared.proofs.Theorems.{as_solved_lem}
use Rattle.compared.proofs.Answered as compared
use Rattle.transfer_verdict.specs.TransferVerdict.{transfer_card}
use Rattle.transfer_verdict.proofs.Accepted as transfer
use Rattle.verdict.specs.Verdict.{same_state, solved_card, is_refused_as, refused_card, verdict_on}
use Rattle.verdict.proofs.StateWords.{state_words, words_of}
use Rattle.verdict.proofs.Tests.{residual_of, shared, starts_fair, solved_is, solved_passes, refused_tests}
use Rattle.verdict.proofs.Rejected.{zero_accepts}

-- where a row of tests that gives a residual comes to the verdict 0, it gives one
zero_solves : (k : Kind) (card : Parts) (c : Checked Float) → verdict_on k card ≡ as_solved c → number_in (verdict_on k card) ≡ 0 → (residual : Float) × (verdict_on k card ≡ solved residual)
zero_solves k card (pass residual) e z = (residual, e)
zero_solves k card (refuse n) e z = absurd (zero_accepts k card z n e)

-- ---- a solved card

pub record Accepted (card : Parts) (residual : Float) : Type 0 where
  pub spare_is : spare_of card.question ≡ 0
  pub o : Scaled
  pub start : Bracket
  pub entry : entry_of (problem_of card.question) ≡ pass (o, start)
  pub x_finite : is_finite (x_of card.answer) ≡ true
  pub x_in : within start (x_of card.answer) ≡ true
  pub time_finite : is_finite (time_at o (x_of card.answer)) ≡ true
  pub gap_small : gap binary64 (time_at o (x_of card.answer)) o.t ≤ most_gap
  pub arrival : Arrives o (x_of card.answer) (state_at o (x_of card.answer))
  pub state_bits : state_words card.answer ≡ words_of (state_at o (x_of card.answer))
  pub residual_is : residual ≡ residual_of card.answer o

pub accepted_means : (card : Parts) (residual : Float) → verdict_on kind.Solved card ≡ solved residual → Accepted card residual
unfolding verdict_on
accepted_means card residual h =
    let S = solved_is card residual (as_solved_lem (solved_card card) (pass residual) h) in
    let o = S.0 in
    let start = S.1 in
    let p = S.2 in
    let x = x_of card.answer in
    let f = starts_fair card.question o start p.entry in
    record {
      spare_is = p.spare_is;
      o = o;
      start = start;
      entry = p.entry;
      x_finite = is_true (is_finite x) (compared.x_finite (time_at o) o.t (arrival_at o) (same_state card.answer) start x f p.x_in);
      x_in = p.x_in;
      time_finite = p.time_finite;
      gap_small = compared.gap_small (time_at o) o.t (arrival_at o) (same_state card.answer) start x f (shared card o start p);
      arrival = p.arrival;
      state_bits = p.state_bits;
      residual_is = S.3;
    }

pub verdict_zero_means : (card : Parts) → number_in (verdict_on kind.Solved card) ≡ 0 → (residual : Float) × (verdict_on kind.Solved card ≡ solved residual) × Accepted card residual
unfolding verdict_on
verdict_zero_means card z =
    let s = zero_solves kind.Solved card (solved_card card) refl z in
    (s.0, s.1, accepted_means card s.0 s.1)

-- a card with an exact gap of at most 2^-36, whose state is the one that x unfolds to, bit for bit
pub record GoodEnough (card : Parts) : Type 0 where
  pub spare_is : spare_of card.question ≡ 0
  pub o : Scaled
  pub start : Bracket
  pub entry : entry_of (problem_of card.question) ≡ pass (o, start)
  pub x_in : within start (x_of card.answer) ≡ true
  pub time_finite : is_finite (time_at o (x_of card.answer)) ≡ true
  pub arrival : Arrives o (x_of card.answer) (state_at o (x_of card.answer))
  pub state_bits : state_words card.answer ≡ words_of (state_at o (x_of card.answer))
  pub gap_small : gap binary64 (time_at o (x_of card.answer)) o.t ≤ in_steps 36

pub good_enough : (card : Parts) (g : GoodEnough card) → verdict_on kind.Solved card ≡ solved (residual_of card.answer g.o)
good_enough card g =
    let o = g.o in
    let x = x_of card.answer in
    let f = starts_fair card.question o g.start g.entry in
    solved_passes card o g.start (record {
      spare_is = g.spare_is;
      entry = g.entry;
      x_in = g.x_in;
      time_finite = g.time_finite;
      near = compared.near_enough (time_at o) o.t (arrival_at o) (same_state card.answer) g.start x f g.time_finite g.gap_small;
      arrival = g.arrival;
      state_bits = g.state_bits;
    })

-- ---- a solved transfer

pub transfer_accepted_means : (card : Parts) (residual : Float) → verdict_on kind.Transfer card ≡ solved residual → transfer.Accepted card residual
unfolding verdict_on
transfer_accepted_means card residual h = transfer.accepted_means card residual (as_solved_lem (transfer_card card) (pass residual) h)

pub transfer_zero_means : (card : Parts) → number_in (verdict_on kind.Transfer card) ≡ 0 → (residual : Float) × (verdict_on kind.Transfer card ≡ solved residual) × transfer.Accepted card residual
unfolding verdict_on
transfer_zero_means card z =
    let s = zero_solves kind.Transfer card (transfer_card card) refl z in
    (s.0, s.1, transfer_accepted_means card s.0 s.1)

pub transfer_good_enough : (card : Parts) (g : transfer.GoodEnough card) → verdict_on kind.Transfer card ≡ solved (transfer.residual_of card.answer g.o)
unfolding verdict_on
transfer_good_enough card g = ap as_solved (transfer.good_enough card g)

-- ---- a refused card

pub refused_means : (card : Parts) → number_in (verdict_on kind.Refused card) ≡ 0 → (spare_of card.question ≡ 0) × (last_spare_of card.answer ≡ 0) × (is_refused_as (kepler_of (problem_of card.question)) (refusal_of card.answer) ≡ true)
unfolding verdict_on
refused_means card z = (refused_tests card).0 (go (refused_card card) refl)
  where
    go : (c : Checked (Unit {0})) → refused_card card ≡ c → refused_card card ≡ pass tt
    go (pass good) e = e
    go (refuse k) e = absurd (zero_accepts kind.Refused card z k (ap as_refused e))

-- ---- the residual that is counted: a finite number without a minus, at most 2^988 s

-- no card of kind refused is accepted as solved
pub never_solved : (card : Parts) (r : Float) → verdict_on kind.Refused card ≡ solved r → ⊥
unfolding verdict_on
never_solved card r h = go (refused_card card) h
  where
    go : (c : Checked (Unit {0})) → as_refused c ≡ solved r → ⊥
    go (pass good) e = true≢false cc
    go (refuse k) e = true≢false cc

pub residual_most : (k : Kind) (card : Parts) (r : Float) → verdict_on k card ≡ solved r → AtMost most_residual r
unfolding verdict_on
residual_most kind.Solved card r h =
    let S = solved_is card r (as_solved_lem (solved_card card) (pass r) h) in
    let o = S.0 in
    let e = entered (problem_of card.question) o S.1 S.2.entry in
    subst (AtMost most_residual) (sym S.3) (compared.residual_most (time_at o) o.t (arrival_at o) (same_state card.answer) S.1 (x_of card.answer) o.f4 e.numbers.f4_plus (shared card o S.1 S.2))
residual_most kind.Refused card r h = absurd (never_solved card r h)
residual_most kind.Transfer card r h = transfer.accepted_most card r (as_solved_lem (transfer_card card) (pass r) h)
