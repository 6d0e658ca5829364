-- Text as bytes: RULES, Text. Definitions only.
use Rattle.std.specs.Prelude.{ℕ, zero, suc, ◌+◌, ◌/◌, ◌%◌, cond, List, [], ◌∷◌, ◌++◌, ltb, Float, ℤ, pos, negsuc}
use Prim.Native.Char.{code}
use Prim.Native.String.{String, [] as ended, ◌∷◌ as ◌then◌}
use Rattle.exact.specs.Numbers.{word_of}

-- Text 1: a word as it is quoted, a byte a character
abbrev pub text : String → List ℕ
text ended = []
text (c then rest) = code c ∷ text rest

-- a digit below 16: `0` to `9`, then `a` to `f`
abbrev pub digit : ℕ → ℕ
digit d = cond (ltb d 10) (48 + d) (87 + d)

-- Text 2: the decimal digits of n, without zeros in front, at most k of them
unfoldable pub decimal : (k n : ℕ) → List ℕ
decimal zero n = []
decimal (suc k) n = cond (ltb n 10) [] (decimal k (n / 10)) ++ (digit (n % 10) ∷ [])

-- Text 2: a count, which has at most ten digits
abbrev pub count : ℕ → List ℕ
count n = 32 ∷ decimal 10 n

-- Text 2: the decimal digits of a whole number, which are at most twenty, behind a byte that leads
abbrev pub led : (lead n : ℕ) → List ℕ
led lead n = lead ∷ decimal 20 n

-- Text 2: a whole number on a sheet
abbrev pub whole : ℕ → List ℕ
whole n = led 32 n

-- Text 2: an epoch, which may be negative: then `-` stands between the space and the digits (`negsuc n` is -1 - n)
abbrev pub signed : ℤ → List ℕ
signed (pos n) = whole n
signed (negsuc n) = 32 ∷ led 45 (n + 1)

-- Text 3: the last k hex digits of n
unfoldable pub hex : (k n : ℕ) → List ℕ
hex zero n = []
hex (suc k) n = hex k (n / 16) ++ (digit (n % 16) ∷ [])

-- Text 3: a number, as its word
abbrev pub worded : ℕ → List ℕ
worded w = 32 ∷ hex 16 w

abbrev pub number : Float → List ℕ
number x = worded (word_of x)
