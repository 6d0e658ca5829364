-- Where bytes stand in a list: what is behind a piece stands at its end, a number is read where its bytes stand, and its bytes stand where it is
-- read.
use mathlib.Core.Path.{◌≡◌, sym, ap, ap₂, ◌∙◌}
use mathlib.Core.List.{List, [], ◌∷◌, ◌++◌}
use Prim.Native.Nat.{ℕ, zero, suc, ◌+◌, ◌-◌, ◌^◌, ◌≤◌, ◌<◌}
use native.Mathlib.Omega.{arith}
use lib.ListN.{length, take, drop, take-append-drop, length-append, length-drop}
use lib.Seq.{length-take-le, drop-drop, drop-append_seam}
use Rattle.spelled.specs.Spelled.{bytes_of}
use Rattle.words.specs.Words.{value, value_at}
use Rattle.words.proofs.Value.{value_at_inside}
use Rattle.spelled.proofs.Length.{length_bytes}
use Rattle.words.proofs.Written.{value_bytes, value_at_front, value_at_back, Bytes, bytes_value_at}

-- from `at` on stand the first n bytes there, then the others
pub stands : (l : List ℕ) (at n : ℕ) → drop at l ≡ take n (drop at l) ++ drop (at + n) l
stands l at n = sym (take-append-drop n (drop at l)) ∙ ap (λ (rest : List ℕ). take n (drop at l) ++ rest) (drop-drop n at l)

-- where a piece stands, what is behind it stands at its end
pub past : (l piece rest : List ℕ) (at end : ℕ) → drop at l ≡ piece ++ rest → at + length piece ≡ end → drop end l ≡ rest
past l piece rest at end e w = ap (λ (n : ℕ). drop n l) (sym w) ∙ sym (drop-drop (length piece) at l) ∙ ap (drop (length piece)) e ∙ drop-append_seam piece rest

-- what is read in n bytes of a list from `from` on is what is read in the list
pub value_at_part : (k : ℕ) (l : List ℕ) (from n at : ℕ) → from + n ≤ length l → at + k ≤ n → value_at k (take n (drop from l)) at ≡ value_at k l (from + at)
value_at_part k l from n at inside h =
    let long : length (take n (drop from l)) ≡ n = length-take-le n (drop from l) (rw (length-drop from l) (omega arith)) in
    let before : length (take from l) ≡ from = length-take-le from l (omega arith) in
    sym (value_at_front k (take n (drop from l)) (drop (from + n) l) at (omega (arith, long)))
    ∙ ap (λ (part : List ℕ). value_at k part at) (sym (stands l from n))
    ∙ sym (value_at_back k (take from l) (drop from l) at)
    ∙ ap₂ (value_at k) (take-append-drop from l) (ap (λ (j : ℕ). j + at) before)

-- where the bytes of a number stand, it is read
pub read_there : (k : ℕ) (l rest : List ℕ) (at n : ℕ) → drop at l ≡ bytes_of k n ++ rest → 0 < k → n < 256 ^ k → value_at k l at ≡ n
read_there k l rest at n e some w =
    let inside : length l - at ≡ k + length rest = sym (length-drop at l) ∙ ap length e ∙ length-append (bytes_of k n) rest ∙ ap (λ (j : ℕ). j + length rest) (length_bytes k n) in
    value_at_inside k l at (omega (arith, inside)) ∙ ap (value k) e ∙ value_bytes k n rest w

-- where a number is read, its bytes stand
pub number_stands : (k : ℕ) (l : List ℕ) (at end n : ℕ) → Bytes l → at + k ≡ end → end ≤ length l → value_at k l at ≡ n → drop at l ≡ bytes_of k n ++ drop end l
number_stands k l at end n b w inside is = stands l at k ∙ ap₂ ◌++◌ (sym (bytes_value_at k l at (omega (arith, w, inside)) b) ∙ ap (bytes_of k) is) (ap (λ (j : ℕ). drop j l) w)

-- the first bytes of bytes
pub bytes_first : (n : ℕ) (l : List ℕ) → Bytes l → Bytes (take n l)
bytes_first zero l b i = omega arith
bytes_first (suc n) [] b i = omega arith
bytes_first (suc n) (x ∷ l) b zero = b 0
bytes_first (suc n) (x ∷ l) b (suc i) = bytes_first n l (λ j. b (suc j)) i
