-- The lowest bytes of a number are the first of the eight that the library makes of it.
use mathlib.Core.Path.{◌≡◌, refl, ap, ap₂, ◌∙◌}
use mathlib.Core.List.{List, ◌∷◌}
use Prim.Native.Nat.{ℕ, zero, suc, ◌/◌, ◌%◌, ◌^◌, ◌≤◌}
use native.Mathlib.Nat.{div-div-eq-div-mul, pow-suc}
use native.Mathlib.Omega.{arith}
use lib.ListN.{take}
use mir.Syntax.{w64}
use Rattle.std.specs.Int.{to_le_bytes, byte_at, bytes_low_first}
use Rattle.spelled.specs.Spelled.{bytes_of}

byte_is : (i n : ℕ) → byte_at i n ≡ n / 256 ^ i % 256
byte_is zero n = omega arith
byte_is (suc i) n = refl

-- k bytes from byte i on are those of what is left without i bytes
from_on : (i k n : ℕ) → bytes_low_first i k n ≡ bytes_of k (n / 256 ^ i)
unfolding bytes_of
from_on i zero n = refl
from_on i (suc k) n =
    let next : n / 256 ^ suc i ≡ n / 256 ^ i / 256 = rw (div-div-eq-div-mul, pow-suc) in
    ap₂ ◌∷◌ (byte_is i n) (from_on (suc i) k n ∙ ap (bytes_of k) next)

fewer : (j k n : ℕ) → j ≤ k → take j (bytes_of k n) ≡ bytes_of j n
unfolding bytes_of
fewer zero k n h = refl
fewer (suc j) zero n h = absurd (omega arith)
fewer (suc j) (suc k) n h = ap (λ (l : List ℕ). n % 256 ∷ l) (fewer j k (n / 256) (omega arith))

pub lowest : (k n : ℕ) {bytes : List ℕ} → k ≤ 8 → bytes ≡ to_le_bytes w64 n → take k bytes ≡ bytes_of k n
lowest k n h e =
    let all : n / 256 ^ 0 ≡ n = omega arith in
    ap (take k) (e ∙ from_on 0 8 n ∙ ap (bytes_of 8) all) ∙ fewer k 8 n h
