-- Numbers that were written are read back: the i-th of a list stands in eight bytes from 8 * i on, its word fits in them, and a number that
-- fits binary64 is that of its word, NaN included.
use mathlib.Core.Path.{◌≡◌, refl, sym, ap, ◌∙◌}
use mathlib.Core.List.{List, [], ◌∷◌, ◌++◌, append_assoc, append-nil}
use Prim.Native.Nat.{ℕ, zero, suc, ◌+◌, ◌*◌, ◌^◌, ◌<◌}
use native.Mathlib.Omega.{arith}
use lib.Dec.{T}
use lib.ListN.{length, get_or, length-append}
use lib.Ieee.{Float, nan, binary64, fits}
use lib.Ieee.Fits.{nan-fits}
use lib.Ieee.Bits.{of_bits-to_bits, to_bits-lt}
use Rattle.exact.specs.Numbers.{number_of, word_of}
use Rattle.spelled.specs.Spelled.{bytes_of}
use Rattle.words.specs.Words.{value_at, words_bytes}
use Rattle.spelled.proofs.Length.{length_bytes}
use Rattle.words.proofs.Written.{value_at_back, value_at_bytes}
use Rattle.card.specs.Made.{numbers_bytes}

abbrev pub AllFit : List Float → Type 0
AllFit [] = Unit
AllFit (x ∷ l) = T (fits binary64 x) × AllFit l

each_fits : (l : List Float) → AllFit l → (i : ℕ) → T (fits binary64 (get_or l i nan))
each_fits [] w i = nan-fits binary64
each_fits (x ∷ l) w zero = w.0
each_fits (x ∷ l) w (suc i) = each_fits l w.1 i

pub length_numbers : (l : List Float) → length (numbers_bytes l) ≡ 8 * length l
unfolding words_bytes
length_numbers [] = refl
length_numbers (x ∷ l) = simp (length-append, length_bytes, length_numbers l) (omega arith)

word_small : (x : Float) → T (fits binary64 x) → word_of x < 256 ^ 8
word_small x w = to_bits-lt binary64 x w

pub word_at : (l : List Float) (rest : List ℕ) → AllFit l → (i : ℕ) → i < length l → value_at 8 (numbers_bytes l ++ rest) (8 * i) ≡ word_of (get_or l i nan)
unfolding words_bytes
word_at [] rest w i h = absurd (omega arith)
word_at (x ∷ l) rest w zero h = rw append_assoc (value_at_bytes 8 (word_of x) (numbers_bytes l ++ rest) (word_small x w.0))
word_at (x ∷ l) rest w (suc i) h =
    let bytes = bytes_of 8 (word_of x) in
    let next : 8 * suc i ≡ length bytes + 8 * i = rw length_bytes (omega arith) in
    rw (append_assoc, next, value_at_back 8 bytes (numbers_bytes l ++ rest) (8 * i)) (word_at l rest w.1 i (omega arith))

-- and where nothing stands behind them
pub word_in : (l : List Float) → AllFit l → (i : ℕ) → i < length l → value_at 8 (numbers_bytes l) (8 * i) ≡ word_of (get_or l i nan)
word_in l w i h = ap (λ (bytes : List ℕ). value_at 8 bytes (8 * i)) (sym (append-nil (numbers_bytes l))) ∙ word_at l [] w i h

pub number_at : (l : List Float) (rest : List ℕ) → AllFit l → (i : ℕ) → i < length l → number_of (value_at 8 (numbers_bytes l ++ rest) (8 * i)) ≡ get_or l i nan
number_at l rest w i h = ap number_of (word_at l rest w i h) ∙ of_bits-to_bits binary64 (get_or l i nan) (each_fits l w i)
