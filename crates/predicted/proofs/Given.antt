-- The bytes of a problem are kept: the words of its eight numbers and its limit are its 68 bytes.
use mathlib.Core.Path.{◌≡◌, refl, sym, ap, ◌∙◌}
use mathlib.Core.List.{List, ◌++◌, append_assoc, append-nil}
use Prim.Native.Nat.{ℕ, ◌+◌, ◌≤◌}
use native.Mathlib.Omega.{arith}
use lib.ListN.{length, drop, drop_of_length-le}
use Rattle.spelled.specs.Spelled.{bytes_of}
use Rattle.words.specs.Words.{value_at, words_bytes}
use Rattle.words.proofs.Written.{Bytes}
use Rattle.words.proofs.Standing.{number_stands}
use Rattle.card.specs.Fields.{problem_size, problem_of}
use Rattle.predicted.specs.Predicted.{words_in}

module _ (given : List ℕ) (sized : length given ≡ problem_size) (b : Bytes given) where
  -- a word in front of what stands behind it
  then : (at : ℕ) {rest : List ℕ} → at + 8 ≤ problem_size → drop (at + 8) given ≡ rest → drop at given ≡ bytes_of 8 (value_at 8 given at) ++ rest
  then at h e = number_stands 8 given at (at + 8) (value_at 8 given at) b refl (omega (arith, sized)) refl ∙ ap (λ (rest : List ℕ). bytes_of 8 (value_at 8 given at) ++ rest) e

  limit : drop 64 given ≡ bytes_of 4 (value_at 4 given 64)
  limit =
      number_stands 4 given 64 problem_size (value_at 4 given 64) b refl (omega (arith, sized)) refl
      ∙ ap (λ (rest : List ℕ). bytes_of 4 (value_at 4 given 64) ++ rest) (drop_of_length-le given {i = problem_size} (omega (arith, sized)))
      ∙ append-nil (bytes_of 4 (value_at 4 given 64))

  pub given_kept : words_bytes (words_in given) ++ bytes_of 4 (problem_of given).limit ≡ given
  unfolding words_bytes problem_of
  given_kept =
      let all = then 0 (omega arith) (then 8 (omega arith) (then 16 (omega arith) (then 24 (omega arith) (then 32 (omega arith) (then 40 (omega arith) (then 48 (omega arith) (then 56 (omega arith) limit))))))) in
      simp append_assoc (sym all)
