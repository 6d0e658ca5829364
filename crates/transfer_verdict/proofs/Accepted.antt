-- What verdict 0 of a solved transfer means, and what gets it: demand 3 of RULES. The tests say it (compared's `Passes`); the one on the times says
-- that their exact gap is at most 2^-36 + 2^-89, and a gap of at most 2^-36 passes it.
use mathlib.Core.Path.{◌≡◌, sym, subst}
use mathlib.Core.Bool.{true}
use mathlib.Core.List.{List}
use Prim.Native.Nat.{ℕ, ◌≤◌}
use lib.Ieee.{Float, binary64, le}
use lib.Ieee.Bits.{is_true}
use Rattle.exact.specs.Numbers.{nought, is_finite, gap, in_steps, most_gap}
use Rattle.exact.proofs.Most.{AtMost}
use Rattle.rows.specs.Rows.{pass, onward}
use Rattle.rows.proofs.Laws.{rows_passed}
use Rattle.search.specs.declared.Bracket.{Bracket}
use Rattle.search.specs.Search.{within}
use Rattle.vectors.specs.declared.Vector.{Vector}
use Rattle.arc.specs.declared.Transfer.{Transfer}
use Rattle.arc.specs.declared.Scaled.{Scaled}
use Rattle.arc.specs.Arc.{time_at, velocity_at}
use Rattle.arc.proofs.Departing.{departure_at, Departs, departs_at}
use Rattle.arc_entry.specs.ArcEntry.{thirty_six, entry_of}
use Rattle.arc_entry.proofs.Passed.{entered}
use Rattle.arc_entry.proofs.Fair.{fair, in_start_between}
use Rattle.card.specs.Fields.{Parts, transfer_of, z_of, position_from}
use Rattle.compared.specs.Compared.{in_seconds, most_residual}
use Rattle.compared.proofs.Words.{words_at, vector_words, same_words_lem}
use Rattle.compared.proofs.Answered.{Passes, answered_is, answered_passes, residual_most, x_finite, gap_small, near_enough}
use Rattle.transfer_verdict.specs.TransferVerdict.{same_velocity, at_z, transfer_card}

-- the words of the answer that stand for the velocity
abbrev pub velocity_words : (answer : List ℕ) → List ℕ
velocity_words answer = words_at answer position_from

abbrev pub residual_of : (answer : List ℕ) → Scaled → Float
residual_of answer o = in_seconds (time_at o (z_of answer)) o.t o.f4

-- ---- the tests, both ways

-- what passes them
abbrev pub PassesAt : (answer : List ℕ) → Scaled → Bracket → Vector → Type 0
PassesAt answer o start v = Passes (time_at o) o.t (velocity_at o) (same_velocity answer) start (z_of answer) v

pub transfer_is : (card : Parts) (r : Float) → transfer_card card ≡ pass r
    → (q : Transfer) × (o : Scaled) × (start : Bracket) × (v : Vector) × (transfer_of card.question ≡ pass q) × (entry_of q ≡ pass (o, start)) × PassesAt card.answer o start v × (r ≡ residual_of card.answer o)
unfolding transfer_card at_z
transfer_is card r h =
    let Q = rows_passed (transfer_of card.question) (λ q. onward (entry_of q) (λ e. at_z card.answer e.0 e.1)) h in
    let E = rows_passed (entry_of Q.0) (λ e. at_z card.answer e.0 e.1) Q.2 in
    let o = E.0.0 in
    let start = E.0.1 in
    let A = answered_is (time_at o) o.t (velocity_at o) (same_velocity card.answer) start (z_of card.answer) o.f4 r E.2 in
    (Q.0, o, start, A.0, Q.1, E.1, A.1, A.2)

pub transfer_passes : (card : Parts) (q : Transfer) (o : Scaled) (start : Bracket) (v : Vector) → transfer_of card.question ≡ pass q → entry_of q ≡ pass (o, start) → PassesAt card.answer o start v → transfer_card card ≡ pass (residual_of card.answer o)
unfolding transfer_card at_z onward
transfer_passes card q o start v a e p = rw (a, e) (answered_passes (time_at o) o.t (velocity_at o) (same_velocity card.answer) start (z_of card.answer) (fair q o start (entered q o start e)) o.f4 p)

-- ---- what it means

pub record Accepted (card : Parts) (residual : Float) : Type 0 where
  pub q : Transfer
  pub asked : transfer_of card.question ≡ pass q
  pub o : Scaled
  pub start : Bracket
  pub entry : entry_of q ≡ pass (o, start)
  pub z_finite : is_finite (z_of card.answer) ≡ true
  pub z_least : le nought (z_of card.answer) ≡ true
  pub z_most : le (z_of card.answer) thirty_six ≡ true
  pub time_finite : is_finite (time_at o (z_of card.answer)) ≡ true
  pub gap_small : gap binary64 (time_at o (z_of card.answer)) o.t ≤ most_gap
  pub departs : Departs o (z_of card.answer) (departure_at o (z_of card.answer))
  pub velocity_bits : velocity_words card.answer ≡ vector_words (departure_at o (z_of card.answer))
  pub residual_is : residual ≡ residual_of card.answer o

pub accepted_means : (card : Parts) (residual : Float) → transfer_card card ≡ pass residual → Accepted card residual
accepted_means card residual h =
    let S = transfer_is card residual h in
    let q = S.0 in
    let o = S.1 in
    let start = S.2 in
    let v = S.3 in
    let p = S.6 in
    let z = z_of card.answer in
    let e = entered q o start S.5 in
    let f = fair q o start e in
    let d = (departs_at o z v).0 p.finding in
    let between = in_start_between q o start e z p.x_in in
    let at_z_lem : Departs o z (departure_at o z) × (velocity_words card.answer ≡ vector_words (departure_at o z)) =
    subst (λ (a : Vector). Departs o z a × (velocity_words card.answer ≡ vector_words a)) (sym d.velocity_is) (d, (same_words_lem card.answer position_from v).0 p.same_found) in
    record {
      q = q;
      asked = S.4;
      o = o;
      start = start;
      entry = S.5;
      z_finite = is_true (is_finite z) (x_finite (time_at o) o.t (velocity_at o) (same_velocity card.answer) start z f p.x_in);
      z_least = between.0;
      z_most = between.1;
      time_finite = p.time_finite;
      gap_small = gap_small (time_at o) o.t (velocity_at o) (same_velocity card.answer) start z f p;
      departs = at_z_lem.0;
      velocity_bits = at_z_lem.1;
      residual_is = S.7;
    }

-- its residual is a finite number without a minus, at most 2^988 s
pub accepted_most : (card : Parts) (r : Float) → transfer_card card ≡ pass r → AtMost most_residual r
accepted_most card r h =
    let S = transfer_is card r h in
    let o = S.1 in
    let e = entered S.0 o S.2 S.5 in
    subst (AtMost most_residual) (sym S.7) (residual_most (time_at o) o.t (velocity_at o) (same_velocity card.answer) S.2 (z_of card.answer) o.f4 e.f4_plus S.6)

-- ---- what always gets it

-- a card with an exact gap of at most 2^-36, whose velocity is the one that z comes to, bit for bit
pub record GoodEnough (card : Parts) : Type 0 where
  pub q : Transfer
  pub asked : transfer_of card.question ≡ pass q
  pub o : Scaled
  pub start : Bracket
  pub entry : entry_of q ≡ pass (o, start)
  pub z_in : within start (z_of card.answer) ≡ true
  pub time_finite : is_finite (time_at o (z_of card.answer)) ≡ true
  pub departs : Departs o (z_of card.answer) (departure_at o (z_of card.answer))
  pub velocity_bits : velocity_words card.answer ≡ vector_words (departure_at o (z_of card.answer))
  pub gap_small : gap binary64 (time_at o (z_of card.answer)) o.t ≤ in_steps 36

pub good_enough : (card : Parts) (g : GoodEnough card) → transfer_card card ≡ pass (residual_of card.answer g.o)
good_enough card g =
    let o = g.o in
    let z = z_of card.answer in
    let f = fair g.q o g.start (entered g.q o g.start g.entry) in
    transfer_passes card g.q o g.start (departure_at o z) g.asked g.entry (record {
      x_in = g.z_in;
      time_finite = g.time_finite;
      near = near_enough (time_at o) o.t (velocity_at o) (same_velocity card.answer) g.start z f g.time_finite g.gap_small;
      finding = (departs_at o z (departure_at o z)).1 g.departs;
      same_found = (same_words_lem card.answer position_from (departure_at o z)).1 g.velocity_bits;
    })
