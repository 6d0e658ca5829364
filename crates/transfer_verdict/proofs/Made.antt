-- Every transfer that we solve passes: what it asks is the transfer's bytes, and its answer has the numbers that the search found, so each test of the
-- verdict finds them. A verdict knows no version: the body, in either version, is `transfer_made_passes` (crates/verdict/proofs/Made.antt).
use mathlib.Core.Path.{◌≡◌, ap, ◌∙◌, subst}
use mathlib.Core.List.{List}
use Prim.Native.Nat.{ℕ, ◌+◌, ◌*◌}
use native.Mathlib.Omega.{arith}
use lib.Dec.{T, ltb, ltb→lt}
use lib.ListN.{length, get_or, length-append}
use lib.Ieee.{Float, nan, binary64}
use lib.Ieee.Bits.{of_bits-to_bits}
use Rattle.exact.specs.Numbers.{number_of, word_of}
use Rattle.words.specs.Words.{value_at}
use Rattle.rows.specs.Rows.{pass}
use Rattle.search.specs.Answers.{solved}
use Rattle.vectors.specs.declared.Vector.{Vector}
use Rattle.vectors.proofs.Fitting.{VectorFits}
use Rattle.arc.specs.declared.Transfer.{Transfer}
use Rattle.arc.proofs.Departing.{departs_at, departure_fits}
use Rattle.lambert.specs.Lambert.{lambert_of}
use Rattle.lambert.proofs.Laws.{IsSolved, solved_means}
use Rattle.card.specs.declared.Kind.TheVariants as kind
use Rattle.card.specs.Fields.{question_size, answer_size, parts, transfer_of, z_of, position_from}
use Rattle.card.specs.Made.{numbers_bytes, transfer_numbers, transfer_body}
use Rattle.card.proofs.Numbers.{AllFit, length_numbers, word_in}
use Rattle.compared.proofs.Words.{vector_words, same_words_lem}
use Rattle.transfer_verdict.specs.TransferVerdict.{transfer_card}
use Rattle.transfer_verdict.proofs.Accepted.{velocity_words, residual_of, transfer_passes}

-- the answer's bytes: z, and the velocity
abbrev pub answer_with : Float → Vector → List ℕ
answer_with z velocity = numbers_bytes (transfer_numbers z velocity)

pub answer_size_lem : (z : Float) (velocity : Vector) → length (answer_with z velocity) ≡ answer_size kind.Transfer
unfolding answer_size
answer_size_lem z velocity = length_numbers (transfer_numbers z velocity)

-- the body has these bytes, the transfer's, and as many as object and epoch have
pub made_size : (given tag : List ℕ) → length given ≡ question_size → (z : Float) (velocity : Vector) → length (transfer_body given tag z velocity) ≡ question_size + answer_size kind.Transfer + length tag
made_size given tag sized z velocity = simp length-append (omega (arith, sized, answer_size_lem z velocity))

-- ---- z and velocity are read back, and pass

module _ (z : Float) (velocity : Vector) (w : AllFit (transfer_numbers z velocity)) where
  answer_at : (i : ℕ) → T (ltb i 4) → value_at 8 (answer_with z velocity) (8 * i) ≡ word_of (get_or (transfer_numbers z velocity) i nan)
  answer_at i h = word_in (transfer_numbers z velocity) w i (ltb→lt i 4 h)

  z_read : z_of (answer_with z velocity) ≡ z
  z_read = ap number_of (answer_at 0 tt) ∙ of_bits-to_bits binary64 z w.0

  velocity_read : velocity_words (answer_with z velocity) ≡ vector_words velocity
  velocity_read = rw (answer_at 1 tt, answer_at 2 tt, answer_at 3 tt)

pub made_passes : (given : List ℕ) (z : Float) (velocity : Vector) (q : Transfer) (n : ℕ) → transfer_of given ≡ pass q → lambert_of q ≡ solved z n velocity → (residual : Float) × (transfer_card (parts given (answer_with z velocity)) ≡ pass residual)
made_passes given z velocity q n asked found =
    let s : IsSolved q z velocity = solved_means q z n velocity found in
    let o = s.o in
    let d = (departs_at o z velocity).0 s.finding in
    let f = subst VectorFits d.velocity_is (departure_fits o z) in
    let w : AllFit (transfer_numbers z velocity) = (s.in_start.0.0, (f.0, (f.1, (f.2, tt)))) in
    let same-z = z_read z velocity w in (
      residual_of (answer_with z velocity) o,
      transfer_passes (parts given (answer_with z velocity)) q o s.start velocity asked s.entry (record {
        x_in = rw same-z s.in_start.1;
        time_finite = rw same-z s.finite;
        near = rw same-z s.near;
        finding = rw same-z s.finding;
        same_found = (same_words_lem (answer_with z velocity) position_from velocity).1 (velocity_read z velocity w);
      }),
    )
