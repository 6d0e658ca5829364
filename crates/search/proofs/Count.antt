-- A search makes at least one guess and at most `limit`, and all of them where it is spent: a hunt after n guesses, with `left` more
-- allowed, makes its own and at most those.
use mathlib.Core.Path.{◌≡◌, subst}
use Prim.Native.Nat.{ℕ, zero, suc, ◌+◌, ◌-◌, ◌≤◌}
use native.Mathlib.Omega.{arith}
use lib.Ieee.{Float}
use Rattle.search.specs.declared.Bracket.{Bracket}
use Rattle.search.specs.Said.{Try, guess, no_guess, Ending, solved, closed, spent, lost}
use Rattle.search.specs.Search.{first_guess, narrowed_by, next_guess, go_on, hunt, search_of}
use Rattle.search.proofs.Hunt.{point_at, guessed_by}

abbrev pub guesses_in : Ending → ℕ
guesses_in (solved x n) = n
guesses_in (closed b n) = n
guesses_in (spent b n) = n
guesses_in (lost n) = n

-- a search that is spent has made all its guesses, m
abbrev All : ℕ → Ending → Type 0
All m (solved x n) = Unit
All m (closed b n) = Unit
All m (spent b n) = n ≡ m
All m (lost n) = Unit

abbrev Counted : (left n : ℕ) → Ending → Type 0
Counted left n e = (n + 1 ≤ guesses_in e) × (guesses_in e ≤ n + 1 + left) × All (n + 1 + left) e

-- an end at this guess
at_once : (left n : ℕ) → (n + 1 ≤ n + 1) × (n + 1 ≤ n + 1 + left) × Unit {0}
at_once left n = (omega arith, omega arith, tt)

go_on_counted : (left n : ℕ) (again : Bracket → Float → Ending) → ((b : Bracket) (x : Float) → Counted left (n + 1) (again b x))
    → (b : Bracket) (y : Try) → Counted (suc left) n (go_on again (n + 1) b y)
go_on_counted left n again h b no_guess = at_once (suc left) n
go_on_counted left n again h b (guess x) =
    let c = h b x in
    let same : n + 1 + 1 + left ≡ n + 1 + suc left = omega arith in
    (omega (arith, c.0), omega (arith, c.1), subst (λ (m : ℕ). All m (again b x)) same c.2)

module _ (time : Float → Float) (t : Float) where
  hunt_counted : (left n : ℕ) (b : Bracket) (x : Float) → Counted left n (hunt time t left n b x)
  unfolding hunt
  hunt_counted zero n b x =
      guessed_by time t (n + 1) b x (λ new y. spent new (n + 1)) (Counted 0 n) (λ f e. at_once 0 n) (λ f. (omega arith, omega arith, omega arith)) (λ f. at_once 0 n)
  hunt_counted (suc left) n b x =
      let g = point_at time x in
      let again = hunt time t left (n + 1) in
      guessed_by time t (n + 1) b x (go_on again (n + 1)) (Counted (suc left) n) (λ f e. at_once (suc left) n)
      (λ f. go_on_counted left n again (hunt_counted left (n + 1)) (narrowed_by b g t) (next_guess b g t))
      (λ f. at_once (suc left) n)

  pub search_counts : (limit : ℕ) (b : Bracket) → 1 ≤ limit → (1 ≤ guesses_in (search_of time t limit b)) × (guesses_in (search_of time t limit b) ≤ limit)
  unfolding search_of
  search_counts limit b l = let c = hunt_counted (limit - 1) 0 b (first_guess b t) in (omega (arith, c.0), omega (arith, c.1))

  pub spent_counts : (limit : ℕ) (b : Bracket) → 1 ≤ limit → {new : Bracket} {n : ℕ} → search_of time t limit b ≡ spent new n → n ≡ limit
  unfolding search_of
  spent_counts limit b l e = let c = subst (All (0 + 1 + (limit - 1))) e (hunt_counted (limit - 1) 0 b (first_guess b t)).2 in omega (arith, c)
