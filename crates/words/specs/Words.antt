-- Little-endian numbers in bytes: RULES, The deck. Definitions only.
use Rattle.std.specs.Prelude.{ℕ, zero, suc, ◌+◌, ◌*◌, cond, List, [], ◌∷◌, ◌++◌, leb, length, drop}
use Rattle.spelled.specs.Spelled.{bytes_of}

-- the value of the first k bytes, the lowest first
unfoldable pub value : (k : ℕ) → List ℕ → ℕ
value zero bytes = 0
value (suc k) [] = 0
value (suc k) (b ∷ bytes) = b + 256 * value k bytes

-- the value of the k bytes from index `at` on; 0 where the list ends before
unfoldable pub value_at : (k : ℕ) → List ℕ → (at : ℕ) → ℕ
value_at k bytes at = cond (leb (at + k) (length bytes)) (value k (drop at bytes)) 0

-- words of eight bytes, one behind the other
unfoldable pub words_bytes : List ℕ → List ℕ
words_bytes [] = []
words_bytes (w ∷ words) = bytes_of 8 w ++ words_bytes words
