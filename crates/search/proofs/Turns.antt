-- One turn of the search, a law for each way that it goes: what the loop of `searched` does in a turn is what the definition does. What the loop
-- keeps is `Left`: the hunt that is still to be made ends as the whole search does.
use mathlib.Core.Path.{◌≡◌, refl, sym, ap, ◌∙◌}
use mathlib.Core.Bool.{true, false}
use Prim.Native.Nat.{ℕ, zero, suc, ◌+◌, ◌-◌, ◌≤◌, ◌<◌}
use native.Mathlib.Omega.{arith}
use lib.Ieee.{Float}
use Rattle.exact.specs.Numbers.{is_finite, is_near}
use Rattle.search.specs.declared.Bracket.{Bracket}
use Rattle.search.specs.Said.{Try, guess, no_guess, solved, closed, spent, lost}
use Rattle.search.specs.Search.{first_guess, narrowed_by, next_guess, hunt, search_of}
use Rattle.search.proofs.Hunt.{point_at}

module _ (time : Float → Float) (t : Float) where
  turn_lost : (left n : ℕ) (b : Bracket) (x : Float) → is_finite (time x) ≡ false → hunt time t left n b x ≡ lost (n + 1)
  unfolding hunt
  turn_lost zero n b x e = rw e refl
  turn_lost (suc left) n b x e = rw e refl

  turn_solved : (left n : ℕ) (b : Bracket) (x : Float) → is_finite (time x) ≡ true → is_near (time x) t ≡ true → hunt time t left n b x ≡ solved x (n + 1)
  unfolding hunt
  turn_solved zero n b x e f = rw (e, f) refl
  turn_solved (suc left) n b x e f = rw (e, f) refl

  -- a guess that is finite and not near narrows the bracket: the last one ends the search there
  module _ (n : ℕ) (b : Bracket) (x : Float) (e : is_finite (time x) ≡ true) (f : is_near (time x) t ≡ false) where
    turn_spent : (left : ℕ) → left ≡ 0 → hunt time t left n b x ≡ spent (narrowed_by b (point_at time x) t) (n + 1)
    unfolding hunt
    turn_spent left z = rw (z, e, f) refl

    turn_closed : (left : ℕ) → 0 < left → next_guess b (point_at time x) t ≡ no_guess → hunt time t left n b x ≡ closed (narrowed_by b (point_at time x) t) (n + 1)
    unfolding hunt
    turn_closed zero l g = absurd (omega (arith, l))
    turn_closed (suc left) l g = rw (e, f, g) refl

    -- and any other goes on with the next guess
    turn_again : (left : ℕ) (y : Float) → 0 < left → next_guess b (point_at time x) t ≡ guess y → hunt time t left n b x ≡ hunt time t (left - 1) (n + 1) (narrowed_by b (point_at time x) t) y
    unfolding hunt
    turn_again zero y l g = absurd (omega (arith, l))
    turn_again (suc left) y l g = let one_less : suc left - 1 ≡ left = omega arith in rw (e, f, g, one_less) refl

-- after `count` guesses of a search from the bracket `start`, with the bracket b and the next guess x
pub record Left (time : Float → Float) (t : Float) (limit : ℕ) (start b : Bracket) (x : Float) (count : ℕ) : Type 0 where
  pub more : count ≤ limit - 1
  pub ends : hunt time t (limit - 1 - count) count b x ≡ search_of time t limit start

pub begins : {time : Float → Float} {t : Float} {limit : ℕ} {start : Bracket} {x : Float} → x ≡ first_guess start t → Left time t limit start start x 0
unfolding search_of
begins {limit = limit} e = let whole : limit - 1 - 0 ≡ limit - 1 = omega arith in record { more = omega arith; ends = rw (e, whole) refl }

-- the guess x has the time T. A law for each way out of the loop, and one for the way round it
module _ {time : Float → Float} {t : Float} {limit : ℕ} {start b : Bracket} {x : Float} {count : ℕ} (l : Left time t limit start b x count) {T : Float} (e : T ≡ time x) where
  pub ends_lost : is_finite T ≡ false → lost (count + 1) ≡ search_of time t limit start
  ends_lost f = sym (turn_lost time t (limit - 1 - count) count b x (rw (← e) f)) ∙ l.ends

  pub ends_solved : is_finite T ≡ true → is_near T t ≡ true → solved x (count + 1) ≡ search_of time t limit start
  ends_solved f n = sym (turn_solved time t (limit - 1 - count) count b x (rw (← e) f) (rw (← e) n)) ∙ l.ends

  module _ (f : is_finite T ≡ true) (n : is_near T t ≡ false) {new : Bracket} (w : new ≡ narrowed_by b (record { x = x; time = T }) t) where
    narrowed_is : new ≡ narrowed_by b (point_at time x) t
    narrowed_is = w ∙ ap (λ (T : Float). narrowed_by b (record { x = x; time = T }) t) e

    next_is : {y : Try} → y ≡ next_guess b (record { x = x; time = T }) t → next_guess b (point_at time x) t ≡ y
    next_is y = sym (y ∙ ap (λ (T : Float). next_guess b (record { x = x; time = T }) t) e)

    pub ends_spent : limit ≤ count + 1 → spent new (count + 1) ≡ search_of time t limit start
    ends_spent z =
        ap (λ (b : Bracket). spent b (count + 1)) narrowed_is
        ∙ sym (turn_spent time t count b x (rw (← e) f) (rw (← e) n) (limit - 1 - count) (omega (arith, z)))
        ∙ l.ends

    pub ends_closed : count + 1 < limit → no_guess ≡ next_guess b (record { x = x; time = T }) t → closed new (count + 1) ≡ search_of time t limit start
    ends_closed m y =
        ap (λ (b : Bracket). closed b (count + 1)) narrowed_is
        ∙ sym (turn_closed time t count b x (rw (← e) f) (rw (← e) n) (limit - 1 - count) (omega (arith, m)) (next_is y))
        ∙ l.ends

    pub goes_on : count + 1 < limit → {y : Float} → guess y ≡ next_guess b (record { x = x; time = T }) t → Left time t limit start new y (count + 1)
    goes_on m {y} g =
        let one_less : limit - 1 - (count + 1) ≡ limit - 1 - count - 1 = omega arith in
        record { more = omega (arith, m); ends = rw (one_less, narrowed_is) (sym (turn_again time t count b x (rw (← e) f) (rw (← e) n) (limit - 1 - count) y (omega (arith, m)) (next_is g)) ∙ l.ends) }
