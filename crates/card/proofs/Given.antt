-- What every body begins with is read back: a problem's bytes, whatever stands behind them; and every problem can be written as such bytes, and
-- every transfer with its way.
use mathlib.Core.Path.{◌≡◌, refl, sym, ap, ◌∙◌}
use mathlib.Core.Bool.{true}
use mathlib.Core.List.{List, [], ◌++◌, append-nil}
use Prim.Native.Nat.{ℕ, ◌+◌, ◌*◌, ◌^◌, ◌<◌}
use native.Mathlib.Omega.{arith}
use borrow.Author.Tests.{leb-true}
use lib.Dec.{T, leb, ltb, ltb→lt}
use lib.ListN.{length, get_or, length-append}
use lib.Ieee.{nan}
use Rattle.exact.specs.Numbers.{number_of}
use Rattle.spelled.specs.Spelled.{bytes_of}
use Rattle.words.specs.Words.{value_at}
use Rattle.spelled.proofs.Length.{length_bytes}
use Rattle.words.proofs.Written.{value_at_front, value_at_back, value_at_bytes, value_at_last}
use Rattle.rows.specs.Rows.{pass, onward}
use Rattle.conic.specs.declared.Problem.{Problem}
use Rattle.conic.specs.Said.{problem_numbers}
use Rattle.conic.proofs.Fitting.{ProblemFits}
use Rattle.arc.specs.declared.Way.{Way}
use Rattle.arc.specs.declared.Way.TheVariants as way
use Rattle.arc.specs.declared.Transfer.{Transfer}
use Rattle.card.specs.Fields.{problem_size, question_size, problem_of, way_of, transfer_by, transfer_of}
use Rattle.card.specs.Made.{numbers_bytes, problem_bytes, way_number, as_problem, transfer_bytes}
use Rattle.card.proofs.Numbers.{AllFit, length_numbers, number_at}

-- ---- what stands behind changes nothing

-- a value that stands in the first bytes is read there
front_at : (given : List ℕ) (size : ℕ) → length given ≡ size → (rest : List ℕ) (k at : ℕ) → leb (at + k) size ≡ true → value_at k (given ++ rest) at ≡ value_at k given at
front_at given size sized rest k at h = value_at_front k given rest at (rw sized (leb-true (at + k) size h))

-- and so is a transfer
pub given_transfer : (given : List ℕ) → length given ≡ question_size → (rest : List ℕ) → transfer_of (given ++ rest) ≡ transfer_of given
unfolding problem_of transfer_of
given_transfer given sized rest = simp (front_at given question_size sized rest)

module _ (given : List ℕ) (sized : length given ≡ problem_size) where
  pub given_problem : (rest : List ℕ) → problem_of (given ++ rest) ≡ problem_of given
  unfolding problem_of
  given_problem rest = simp (front_at given problem_size sized rest)

  pub behind_given : (rest : List ℕ) (k at : ℕ) → value_at k (given ++ rest) (problem_size + at) ≡ value_at k rest at
  behind_given rest k at = rw sized at (value_at_back k given rest at)

-- ---- every problem can be written as bytes

module _ (p : Problem) (f : ProblemFits p) where
  given_fits : AllFit (problem_numbers p)
  given_fits = (f.mu_fits, (f.r_fits.0, (f.r_fits.1, (f.r_fits.2, (f.v_fits.0, (f.v_fits.1, (f.v_fits.2, (f.dt_fits, tt))))))))

  given_number : (i : ℕ) → T (ltb i 8) → number_of (value_at 8 (problem_bytes p) (8 * i)) ≡ get_or (problem_numbers p) i nan
  given_number i h = number_at (problem_numbers p) (bytes_of 4 p.limit) given_fits i (ltb→lt i 8 h)

  given_limit : value_at 4 (problem_bytes p) 64 ≡ p.limit
  given_limit = rw length_numbers at (value_at_last 4 p.limit (numbers_bytes (problem_numbers p)) f.limit_fits)

  pub given_as_bytes : (length (problem_bytes p) ≡ problem_size) × (problem_of (problem_bytes p) ≡ p)
  unfolding problem_of
  given_as_bytes = (
    simp (length-append, length_bytes, length_numbers),
    rw (given_number 0 tt, given_number 1 tt, given_number 2 tt, given_number 3 tt, given_number 4 tt, given_number 5 tt, given_number 6 tt, given_number 7 tt, given_limit),
  )

-- ---- and every transfer

way_back : (w : Way) → way_of (way_number w) ≡ pass w
unfolding way_of
way_back way.Short = refl
way_back way.Long = refl

way_small : (w : Way) → way_number w < 256 ^ 4
way_small way.Short = omega arith
way_small way.Long = omega arith

-- a way is read back where it stands behind what every body begins with
pub way_read : (given rest : List ℕ) (w : Way) → length given ≡ problem_size → transfer_of (given ++ (bytes_of 4 (way_number w) ++ rest)) ≡ pass (transfer_by given w)
unfolding onward transfer_of
way_read given rest w sized =
    let number : value_at 4 (given ++ (bytes_of 4 (way_number w) ++ rest)) problem_size ≡ way_number w = behind_given given sized (bytes_of 4 (way_number w) ++ rest) 4 0 ∙ value_at_bytes 4 (way_number w) rest (way_small w) in
    rw (number, way_back w, given_problem given sized (bytes_of 4 (way_number w) ++ rest)) refl

pub transfer_as_bytes : (q : Transfer) → ProblemFits (as_problem q) → (length (transfer_bytes q) ≡ question_size) × (transfer_of (transfer_bytes q) ≡ pass q)
transfer_as_bytes q f =
    let g = given_as_bytes (as_problem q) f in (
      length-append (problem_bytes (as_problem q)) (bytes_of 4 (way_number q.way)) ∙ rw (g.0, length_bytes 4 (way_number q.way)) refl,
      ap (λ (l : List ℕ). transfer_of (problem_bytes (as_problem q) ++ l)) (sym (append-nil (bytes_of 4 (way_number q.way)))) ∙ way_read (problem_bytes (as_problem q)) [] q.way g.0 ∙ rw g.1 refl,
    )
