-- The six words of an answer that stand for the state, and those of a state: those of its two vectors. The comparison of a verdict holds exactly where
-- the two lists are equal, since it does so for each vector.
use mathlib.Core.Path.{◌≡◌, ap, ◌∙◌}
use mathlib.Core.Logic.{◌↔◌}
use mathlib.Core.Bool.{true}
use mathlib.Core.List.{List, ◌++◌}
use Prim.Native.Nat.{ℕ}
use lib.Ieee.Bits.{is_true}
use Rattle.exact.proofs.Basics.{passed, both}
use Rattle.conic.specs.declared.State.{State}
use Rattle.card.specs.Fields.{position_from, velocity_from}
use Rattle.compared.specs.Compared.{same_words}
use Rattle.compared.proofs.Words.{words_at, vector_words, same_words_lem}
use Rattle.verdict.specs.Verdict.{same_state}

-- the six words of an answer, in order, and those of a state
abbrev pub state_words : (answer : List ℕ) → List ℕ
state_words answer = words_at answer position_from ++ words_at answer velocity_from

abbrev pub words_of : State → List ℕ
words_of state = vector_words state.r ++ vector_words state.v

pub same_state_lem : (answer : List ℕ) (state : State) → (same_state answer state ≡ true) ↔ (state_words answer ≡ words_of state)
same_state_lem answer state = (there, back)
  where
    there : same_state answer state ≡ true → state_words answer ≡ words_of state
    there h =
        let t = (both (same_words answer position_from state.r) (same_words answer velocity_from state.v)).0 h in
        let p = (same_words_lem answer position_from state.r).0 (is_true _ t.0) in
        let q = (same_words_lem answer velocity_from state.v).0 (is_true _ t.1) in
        ap (λ (l : List ℕ). l ++ words_at answer velocity_from) p ∙ ap (λ (l : List ℕ). vector_words state.r ++ l) q

    back : state_words answer ≡ words_of state → same_state answer state ≡ true
    back e =
        let p : words_at answer position_from ≡ vector_words state.r = cc in
        let q : words_at answer velocity_from ≡ vector_words state.v = cc in
        (both (same_words answer position_from state.r) (same_words answer velocity_from state.v)).1
        (passed ((same_words_lem answer position_from state.r).1 p), passed ((same_words_lem answer velocity_from state.v).1 q))
