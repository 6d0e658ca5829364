-- Kepler's own answers pass, in either version, whatever object and epoch are: the card that a problem's bytes and Kepler's answer to it make asks
-- the problem, with a spare that is 0, and answers the answer's numbers (`made_parts`), so each test of the verdict finds what Kepler found. So does
-- every transfer that we solve.
use mathlib.Core.Path.{◌≡◌, refl, sym, ap, ◌∙◌, subst}
use mathlib.Core.Bool.{true}
use mathlib.Core.List.{List, ◌++◌}
use Prim.Native.Nat.{ℕ, ◌+◌, ◌*◌}
use native.Mathlib.Omega.{arith}
use lib.Dec.{T, ltb, eqb, ltb→lt, eqb_refl}
use lib.ListN.{length, get_or, length-append}
use lib.Ieee.{Float, nan, binary64, fits}
use lib.Ieee.Bits.{is_true, of_bits-to_bits}
use Rattle.exact.specs.Numbers.{number_of, word_of}
use Rattle.spelled.specs.Spelled.{bytes_of}
use Rattle.words.specs.Words.{value_at}
use Rattle.spelled.proofs.Length.{length_bytes}
use Rattle.words.proofs.Written.{value_at_bytes, value_at_last}
use Rattle.conic.specs.declared.State.{State}
use Rattle.rows.specs.Rows.{Checked, pass}
use Rattle.rows.proofs.Laws.{between_is}
use Rattle.search.specs.Answers as answer
use Rattle.conic.specs.Said as conic
use Rattle.conic.specs.Unfolding.{state_at}
use Rattle.conic.proofs.Arrival.{Arrives, arrives}
use Rattle.conic.proofs.Fitting.{StateFits, state_fits}
use Rattle.vectors.specs.declared.Vector.{Vector}
use Rattle.arc.specs.declared.Transfer.{Transfer}
use Rattle.lambert.specs.Lambert.{lambert_of}
use Rattle.transfer_verdict.specs.TransferVerdict.{transfer_card}
use Rattle.transfer_verdict.proofs.Made as transfer
use Rattle.kepler.specs.Kepler.{kepler_of}
use Rattle.search.proofs.Answers.{RefusalHas}
use Rattle.entry.proofs.Refusals.{Numbered, first_numbered}
use Rattle.units.proofs.Places.{FirstNotFinite}
use Rattle.kepler.proofs.Laws.{refusal_numbered, first_named, IsSolved, solved_means}
use Rattle.version.specs.declared.Version.{Version}
use Rattle.version.specs.Version.{tag_size}
use Rattle.card.specs.declared.Kind.TheVariants as kind
use Rattle.card.specs.Fields.{problem_size, spare_size, question_size, answer_size, size_of, Parts, parts, parts_of, problem_of, spare_of, transfer_of, x_of, refusal_of, last_spare_of}
use Rattle.card.specs.Made.{spare, solved_numbers, solved_answer, transfer_body, kind_for, card_for}
use Rattle.card.proofs.Numbers.{AllFit, length_numbers, word_in}
use Rattle.card.proofs.Given.{given_problem}
use Rattle.card.proofs.Parts.{solved_parts, refused_parts, transfer_parts}
use Rattle.ruling.specs.Said.{number_in}
use Rattle.compared.specs.Said.{as_solved, as_refused}
use Rattle.verdict.specs.Verdict.{is_refused_as, verdict_on, verdict_of}
use Rattle.verdict.proofs.StateWords.{state_words, words_of}
use Rattle.verdict.proofs.Tests.{solved_passes, refused_tests}

answer_fits : (x : Float) (state : State) → T (fits binary64 x) → StateFits state → AllFit (solved_numbers x state)
answer_fits x state w f = (w, (f.0.0, (f.0.1, (f.0.2, (f.1.0, (f.1.1, (f.1.2, tt)))))))

-- ---- what the cards ask and answer

-- a refusal's number and the last spare
abbrev pub refused_answer : ℕ → List ℕ
refused_answer k = bytes_of 4 k ++ spare

abbrev pub answer_on : conic.Said → List ℕ
answer_on (answer.solved x n state) = solved_answer x state
answer_on (answer.refused k n) = refused_answer k
answer_on (answer.refused_with_bracket k n lo hi) = refused_answer k

-- the problem with its spare, and the answer
abbrev pub parts_for : (given : List ℕ) → conic.Said → Parts
parts_for given said = parts (given ++ spare) (answer_on said)

-- of a solved one x and the state are read back
module _ (x : Float) (state : State) (w : AllFit (solved_numbers x state)) where
  answer_at : (i : ℕ) → T (ltb i 7) → value_at 8 (solved_answer x state) (8 * i) ≡ word_of (get_or (solved_numbers x state) i nan)
  answer_at i h = word_in (solved_numbers x state) w i (ltb→lt i 7 h)

  x_read : x_of (solved_answer x state) ≡ x
  x_read = ap number_of (answer_at 0 tt) ∙ of_bits-to_bits binary64 x w.0

  state_read : state_words (solved_answer x state) ≡ words_of state
  state_read = rw (answer_at 1 tt, answer_at 2 tt, answer_at 3 tt, answer_at 4 tt, answer_at 5 tt, answer_at 6 tt)

-- and of a refused one the number
refusal_read : (k : ℕ) → Numbered k → refusal_of (refused_answer k) ≡ k
refusal_read k small = value_at_bytes 4 k spare (omega (arith, (between_is 1 (conic.input_number conic.inputs) k small).1))

last_is : (k : ℕ) → last_spare_of (refused_answer k) ≡ 0
last_is k = rw length_bytes at (value_at_last spare_size 0 (bytes_of 4 k) (omega arith))

means_itself : (k : ℕ) → conic.is_meant_by k k ≡ true
means_itself k = rw (is_true (eqb k k) (eqb_refl k)) refl

module _ (given : List ℕ) (sized : length given ≡ problem_size) where
  spare_is : spare_of (given ++ spare) ≡ 0
  spare_is = rw sized at (value_at_last spare_size 0 given (omega arith))

  asks : problem_of (given ++ spare) ≡ problem_of given
  asks = given_problem given sized spare

  -- ---- they pass

  solved_made : (x : Float) (state : State) → IsSolved (problem_of given) x state → number_in (verdict_on kind.Solved (parts (given ++ spare) (solved_answer x state))) ≡ 0
  solved_made x state s =
      let o = s.o in
      let arrived = (arrives o x state).0 s.finding in
      let is = arrived.state_is in
      let w = answer_fits x state s.in_start.0.0 (subst StateFits is (state_fits o x)) in
      let same-x = x_read x state w in
      let arrival : Arrives o x (state_at o x) = subst (Arrives o x) (sym is) arrived in
      let state_bits : state_words (solved_answer x state) ≡ words_of (state_at o x) = state_read x state w ∙ ap words_of (sym is) in
      ap number_in (solved_passes (parts (given ++ spare) (solved_answer x state)) o s.start (record {
        spare_is = spare_is;
        entry = rw asks s.entry;
        x_in = rw same-x s.in_start.1;
        time_finite = rw same-x s.finite;
        near = rw same-x s.near;
        arrival = rw same-x arrival;
        state_bits = rw same-x state_bits;
      }))

  refused_made : (k : ℕ) → Numbered k → is_refused_as (kepler_of (problem_of given)) k ≡ true → number_in (verdict_on kind.Refused (parts (given ++ spare) (refused_answer k))) ≡ 0
  unfolding verdict_on
  refused_made k small e = ap (λ (c : Checked (Unit {0})). number_in (as_refused c)) ((refused_tests (parts (given ++ spare) (refused_answer k))).1 (spare_is, last_is k, rw (asks, refusal_read k small) e))

  parts_pass : (said : conic.Said) → kepler_of (problem_of given) ≡ said → number_in (verdict_on (kind_for said) (parts_for given said)) ≡ 0
  parts_pass (answer.solved x n state) e = solved_made x state (solved_means (problem_of given) x n state e)
  parts_pass (answer.refused k n) e = refused_made k (subst (RefusalHas Numbered Numbered) e (refusal_numbered (problem_of given))) (rw e (means_itself k))
  parts_pass (answer.refused_with_bracket k n lo hi) e = refused_made k (subst (RefusalHas Numbered Numbered) e (refusal_numbered (problem_of given))) (rw e (means_itself k))

-- ---- the cards, in either version

solved_size : (x : Float) (state : State) → length (solved_answer x state) ≡ answer_size kind.Solved
unfolding answer_size
solved_size x state = length_numbers (solved_numbers x state)

refused_size : (k : ℕ) → length (refused_answer k) ≡ answer_size kind.Refused
unfolding answer_size
refused_size k = simp (length-append, length_bytes)

module _ (v : Version) (given tag : List ℕ) (sized : length given ≡ problem_size) (tag-sized : length tag ≡ tag_size v) where
  pub made_parts : (said : conic.Said) → let made = card_for given tag said in parts_of v made.kind made.body ≡ parts_for given said
  made_parts (answer.solved x n state) = solved_parts v tag tag-sized given sized (solved_answer x state) (solved_size x state)
  made_parts (answer.refused k n) = refused_parts v tag tag-sized given sized (bytes_of 4 k) (refused_size k)
  made_parts (answer.refused_with_bracket k n lo hi) = refused_parts v tag tag-sized given sized (bytes_of 4 k) (refused_size k)

  -- the problem that is asked
  pub made_problem : (said : conic.Said) → let made = card_for given tag said in problem_of (parts_of v made.kind made.body).question ≡ problem_of given
  made_problem said = ap (λ (p : Parts). problem_of p.question) (made_parts said) ∙ asks given sized

  pub made_passes : number_in (verdict_of v (card_for given tag (kepler_of (problem_of given)))) ≡ 0
  made_passes =
      let said = kepler_of (problem_of given) in
      ap (λ (p : Parts). number_in (verdict_on (kind_for said) p)) (made_parts said) ∙ parts_pass given sized said refl

  -- of a number that is not finite: the card has its number
  pub made_names : (place : ℕ) → FirstNotFinite (conic.problem_numbers (problem_of given)) place
      → let made = card_for given tag (kepler_of (problem_of given)) in (made.kind ≡ kind.Refused) × (refusal_of (parts_of v made.kind made.body).answer ≡ conic.input_number place)
  made_names place f =
      let k = conic.input_number place in
      rw (first_named (problem_of given) place f) (refl, ap (λ (p : Parts). refusal_of p.answer) (made_parts (answer.refused k 0)) ∙ refusal_read k (first_numbered _ _ _ _ place f))

-- ---- a solved transfer: each that we solve, made into a card

module _ (v : Version) (given tag : List ℕ) (sized : length given ≡ question_size) (tag-sized : length tag ≡ tag_size v) (z : Float) (velocity : Vector) where
  -- the body has the size of its kind
  pub transfer_made_size : length (transfer_body given tag z velocity) ≡ size_of v kind.Transfer
  transfer_made_size = transfer.made_size given tag sized z velocity ∙ ap (λ (size : ℕ). question_size + answer_size kind.Transfer + size) tag-sized

  pub transfer_made_parts : parts_of v kind.Transfer (transfer_body given tag z velocity) ≡ parts given (transfer.answer_with z velocity)
  transfer_made_parts = transfer_parts v tag tag-sized given (transfer.answer_with z velocity) sized (transfer.answer_size_lem z velocity)

  pub transfer_made_passes : (q : Transfer) (n : ℕ) → transfer_of given ≡ pass q → lambert_of q ≡ answer.solved z n velocity → number_in (verdict_of v (record { kind = kind.Transfer; body = transfer_body given tag z velocity })) ≡ 0
  unfolding verdict_on
  transfer_made_passes q n asked found = ap (λ (c : Checked Float). number_in (as_solved c)) (ap transfer_card transfer_made_parts ∙ (transfer.made_passes given z velocity q n asked found).1)
