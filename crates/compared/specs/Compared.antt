-- The tests that the cards of kinds 1 and 3 share: RULES, Verdicts 3 to 8 and 14 to 18, for any time as a function of the unknown, wanted time, unit of
-- time and finding. Definitions only.
use Rattle.std.specs.Prelude.{ℕ, ◌+◌, ◌^◌, Bool, ◌&&◌, List, eqb, Float}
use Rattle.exact.specs.Numbers.{◌⊖◌, ◌⊗◌, word_of, is_finite, magnitude, is_near}
use Rattle.words.specs.Words.{value_at}
use Rattle.rows.specs.Rows.{Checked, pass, must, onward}
use Rattle.search.specs.declared.Bracket.{Bracket}
use Rattle.search.specs.Search.{within}
use Rattle.vectors.specs.declared.Vector.{Vector}
use Rattle.card.specs.Fields.{position_from, velocity_from}
use Rattle.compared.specs.declared.Place.{Place}
use Rattle.compared.specs.declared.Place.TheVariants as place

-- Tally 2: the residual in seconds: |T - t|, times the unit of these two times
abbrev pub in_seconds : (time t unit : Float) → Float
in_seconds time t unit = magnitude (time ⊖ t) ⊗ unit

-- Tally 4: no residual is above 2^988 s
abbrev pub most_exponent : ℕ
most_exponent = 988

-- the same in steps of 2^-1074
unfoldable pub most_residual : ℕ
most_residual = 2 ^ (most_exponent + 1074)

-- Verdicts 3 to 5 and 14 to 16: 20, 6 and 21, in this order, of the unknown x, the time there and the wanted one, which are scaled; then the residual
unfoldable pub timed_by : Bracket → (x time t unit : Float) → Checked Float
timed_by b x time t unit =
    must (is_finite x && within b x) 20
    (must (is_finite time) 6
    (must (is_near time t) 21
    (pass (in_seconds time t unit))))

-- Verdicts 6 to 8, 17 and 18: what is found at x, with its own refusals, and 22 where it is not the same, bit by bit
unfoldable pub found_by : {A : Type 0} → (find : Float → Checked A) (same : A → Bool) (x residual : Float) → Checked Float
found_by find same x residual =
    onward (find x) (λ found.
    must (same found) 22
    (pass residual))

-- the one behind the other
unfoldable pub answered_by : {A : Type 0} → (time : Float → Float) (t unit : Float) (find : Float → Checked A) (same : A → Bool) → Bracket → (x : Float) → Checked Float
answered_by time t unit find same b x =
    onward (timed_by b x (time x) t unit) (λ residual.
    found_by find same x residual)

-- the bits of a vector, as words, against those of the answer
abbrev pub same_words : (answer : List ℕ) → (at : ℕ) → Vector → Bool
same_words answer at a = eqb (value_at 8 answer at) (word_of a.x) && eqb (value_at 8 answer (at + 8)) (word_of a.y) && eqb (value_at 8 answer (at + 16)) (word_of a.z)

-- where a vector stands in a solved card's answer: behind the unknown, or behind the first vector
abbrev pub place_at : Place → ℕ
place_at place.First = position_from
place_at place.Second = velocity_from
