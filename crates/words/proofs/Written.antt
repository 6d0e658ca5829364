-- Reading what was written: the k lowest bytes of n have the value n where n is below 256 ^ k, and what stands before or behind them changes
-- nothing. So bytes are read back at the front of a list (`value_at_bytes`) and at its end (`value_at_last`).
use mathlib.Core.Path.{◌≡◌, refl, sym, ap, ◌∙◌}
use mathlib.Core.Bool.{Bool, true, false}
use mathlib.Core.List.{List, [], ◌∷◌, ◌++◌, append-nil}
use Prim.Native.Nat.{ℕ, zero, suc, ◌+◌, ◌*◌, ◌/◌, ◌%◌, ◌^◌, ◌≤◌, ◌<◌}
use native.Mathlib.Nat.{pow-succ'}
use native.Mathlib.Omega.{arith}
use borrow.Author.Tests.{leb-true, leb-false}
use lib.Dec.{leb}
use lib.ListN.{length, take, drop, get_or, length-append, length-drop}
use lib.Seq.{take-append-le, drop-append-le, drop-append-add, get_or-drop}
use Rattle.spelled.specs.Spelled.{bytes_of}
use Rattle.spelled.proofs.Length.{length_bytes}
use Rattle.words.specs.Words.{value, value_at}
use Rattle.words.proofs.Value.{value_at_inside, value_at_outside, value_at_same}

pub value_bytes : (k n : ℕ) (rest : List ℕ) → n < 256 ^ k → value k (bytes_of k n ++ rest) ≡ n
unfolding value bytes_of
value_bytes zero n rest h = omega arith
value_bytes (suc k) n rest h =
    let fewer : n / 256 < 256 ^ k = omega (arith, pow-succ' 256 k) in
    rw (value_bytes k (n / 256) rest fewer) (omega arith)

-- what stands behind
pub value_at_front : (k : ℕ) (l r : List ℕ) (at : ℕ) → at + k ≤ length l → value_at k (l ++ r) at ≡ value_at k l at
value_at_front k l r at h =
    let room : k ≤ length (drop at l) = simp length-drop (omega arith) in
    value_at_same k (l ++ r) at l at (simp length-append (omega arith)) h
    (ap (take k) (drop-append-le at l r (omega arith)) ∙ take-append-le k (drop at l) r room)

-- what stands before
pub value_at_back : (k : ℕ) (l r : List ℕ) (at : ℕ) → value_at k (l ++ r) (length l + at) ≡ value_at k r at
value_at_back k l r at = go (leb (at + k) (length r)) refl
  where
    go : (b : Bool) → leb (at + k) (length r) ≡ b → value_at k (l ++ r) (length l + at) ≡ value_at k r at
    go true e =
        let h = leb-true (at + k) (length r) e in
        value_at_inside k (l ++ r) (length l + at) (simp length-append (omega arith)) ∙ ap (value k) (drop-append-add l r at) ∙ sym (value_at_inside k r at h)
    go false e =
        let h = leb-false (at + k) (length r) e in
        value_at_outside k (l ++ r) (length l + at) (simp length-append (omega arith)) ∙ sym (value_at_outside k r at h)

-- bytes at the front, and at the end
pub value_at_bytes : (k n : ℕ) (rest : List ℕ) → n < 256 ^ k → value_at k (bytes_of k n ++ rest) 0 ≡ n
value_at_bytes k n rest h = value_at_inside k (bytes_of k n ++ rest) 0 (simp (length-append, length_bytes) (omega arith)) ∙ value_bytes k n rest h

pub value_at_last : (k n : ℕ) (l : List ℕ) → n < 256 ^ k → value_at k (l ++ bytes_of k n) (length l) ≡ n
value_at_last k n l h =
    let end : length l ≡ length l + 0 = omega arith in
    ap (value_at k (l ++ bytes_of k n)) end ∙ value_at_back k l (bytes_of k n) 0 ∙ ap (λ (b : List ℕ). value_at k b 0) (sym (append-nil (bytes_of k n))) ∙ value_at_bytes k n [] h

-- and the other way: bytes that are read are those that would be written for them
abbrev pub Bytes : List ℕ → Type 0
Bytes l = (i : ℕ) → get_or l i 0 < 256

pub bytes_value : (k : ℕ) (l : List ℕ) → k ≤ length l → Bytes l → bytes_of k (value k l) ≡ take k l
unfolding value bytes_of
bytes_value zero l h b = refl
bytes_value (suc k) [] h b = absurd (omega arith)
bytes_value (suc k) (x ∷ l) h b =
    let small : x < 256 = b 0 in
    let low : (x + 256 * value k l) % 256 ≡ x = omega arith in
    let high : (x + 256 * value k l) / 256 ≡ value k l = omega arith in
    rw (low, high, bytes_value k l (omega arith) (λ i. b (suc i)))

pub bytes_behind : (l : List ℕ) (at : ℕ) → Bytes l → Bytes (drop at l)
bytes_behind l at b i = rw (get_or-drop at l i 0) (b (at + i))

pub bytes_value_at : (k : ℕ) (l : List ℕ) (at : ℕ) → at + k ≤ length l → Bytes l → bytes_of k (value_at k l at) ≡ take k (drop at l)
bytes_value_at k l at h b = ap (bytes_of k) (value_at_inside k l at h) ∙ bytes_value k (drop at l) (simp length-drop (omega arith)) (bytes_behind l at b)
