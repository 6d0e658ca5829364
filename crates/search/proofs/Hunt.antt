-- The search by its turns. A guess ends the search or hands on a narrowed bracket with the next guess (`guessed_by`), and the next guess is
-- a number of the format strictly inside that bracket (`next_inside`). What is so passed on holds at the end (`search_ends`): every law on
-- where a search ends is an instance of this one induction. And where two times are the same at each guess, the search is (`search_same`).
use mathlib.Core.Path.{◌≡◌, refl, subst}
use mathlib.Core.Logic.{◌⊎◌, inl, inr}
use mathlib.Core.Bool.{Bool, true, false, cond}
use Prim.Native.Nat.{ℕ, zero, suc, ◌+◌, ◌-◌}
use lib.Dec.{T}
use lib.Ieee.{Float, binary64, fits, lt}
use lib.Ieee.Fits.{add-fits}
use Rattle.exact.specs.Numbers.{◌⊖◌, ◌⊗◌, ◌⊘◌, two, is_finite, is_near}
use Rattle.search.specs.declared.Point.{Point}
use Rattle.search.specs.declared.Bracket.{Bracket}
use Rattle.search.specs.Said.{Try, guess, no_guess, Ending, solved, closed, spent, lost}
use Rattle.search.specs.Search.{inside, middle_of, first_guess, narrowed_by, replaced, other, line_through, choose, next_guess, guessed, go_on, hunt, search_of}

-- ---- one guess

-- a guess with its time
abbrev pub point_at : (Float → Float) → Float → Point
point_at time x = record { x = x; time = time x }

module _ (time : Float → Float) (t : Float) (n : ℕ) (b : Bracket) (x : Float) (onward : Bracket → Try → Ending) where
  abbrev turned : Ending
  turned = onward (narrowed_by b (point_at time x) t) (next_guess b (point_at time x) t)

  pub guessed_by : (P : Ending → Type 0) → (is_finite (time x) ≡ true → is_near (time x) t ≡ true → P (solved x n)) → (is_finite (time x) ≡ true → P turned) → (is_finite (time x) ≡ false → P (lost n))
      → P (guessed time t n b x onward)
  guessed_by P near on gone = go (is_finite (time x)) (is_near (time x) t) refl refl
    where
      go : (u v : Bool) → is_finite (time x) ≡ u → is_near (time x) t ≡ v → P (cond u (cond v (solved x n) turned) (lost n))
      go true true f e = near f e
      go true false f e = on f
      go false v f e = gone f

-- ---- the next guess

-- P of the guess, if there is one
abbrev OfGuess : (Float → Type 0) → Try → Type 0
OfGuess P no_guess = Unit
OfGuess P (guess x) = P x

abbrev Inside : Bracket → Float → Type 0
Inside b x = T (fits binary64 x) × (inside b x ≡ true)

choose_inside : (b : Bracket) (e i m : Float) → T (fits binary64 e) → T (fits binary64 i) → T (fits binary64 m) → OfGuess (Inside b) (choose b e i m)
choose_inside b e i m E I M = go (inside b e) (inside b i) (inside b m) refl refl refl
  where
    go : (u v w : Bool) → inside b e ≡ u → inside b i ≡ v → inside b m ≡ w → OfGuess (Inside b) (cond u (guess e) (cond v (guess i) (cond w (guess m) no_guess)))
    go true v w p q r = (E, p)
    go false true w p q r = (I, q)
    go false false true p q r = (M, r)
    go false false false p q r = tt

-- each of the three is a sum, and a sum fits
through_fits : (g b : Point) (t : Float) → T (fits binary64 (line_through g b t))
through_fits g b t = add-fits binary64 g.x ((t ⊖ g.time) ⊘ (g.time ⊖ b.time) ⊗ (g.x ⊖ b.x))

pub middle_fits : (b : Bracket) → T (fits binary64 (middle_of b))
middle_fits b = add-fits binary64 b.lo.x ((b.hi.x ⊖ b.lo.x) ⊘ two)

next_inside : (b : Bracket) (g : Point) (t : Float) → OfGuess (Inside (narrowed_by b g t)) (next_guess b g t)
unfolding next_guess
next_inside b g t =
    let new = narrowed_by b g t in
    choose_inside new (line_through g (replaced b g t) t) (line_through g (other b g t) t) (middle_of new)
    (through_fits g (replaced b g t) t) (through_fits g (other b g t) t) (middle_fits new)

-- ---- the end

-- what holds at the end, with I of every bracket and the guess in it, and J of every bracket that a guess has narrowed
abbrev pub Ends : (time : Float → Float) (t : Float) (I : Bracket → Float → Type 0) (J : Bracket → Type 0) → Ending → Type 0
Ends time t I J (solved x n) = (is_finite (time x) ≡ true) × (is_near (time x) t ≡ true) × ((b : Bracket) × I b x)
Ends time t I J (closed b n) = J b
Ends time t I J (spent b n) = J b
Ends time t I J (lost n) = (x : Float) × (is_finite (time x) ≡ false) × ((b : Bracket) × I b x)

-- what passes them on: a guess with a finite time, as the new lower or upper end, and a number strictly inside, as the next guess
pub record Passed (time : Float → Float) (t : Float) (I : Bracket → Float → Type 0) (J : Bracket → Type 0) : Type 0 where
  pub lower : (b : Bracket) (x : Float) → I b x → is_finite (time x) ≡ true → lt (time x) t ≡ true → J (record { lo = point_at time x; hi = b.hi })
  pub upper : (b : Bracket) (x : Float) → I b x → is_finite (time x) ≡ true → lt (time x) t ≡ false → J (record { lo = b.lo; hi = point_at time x })
  pub next : (b : Bracket) (x : Float) → J b → T (fits binary64 x) → inside b x ≡ true → I b x

-- the bracket that a refusal names: nothing is left inside, or the guesses are spent
abbrev pub Names : Ending → Bracket → Type 0
Names e b = (n : ℕ) × ((e ≡ closed b n) ⊎ (e ≡ spent b n))

module _ {time : Float → Float} {t : Float} {I : Bracket → Float → Type 0} {J : Bracket → Type 0} (p : Passed time t I J) where
  narrowed_holds : (b : Bracket) (x : Float) → I b x → is_finite (time x) ≡ true → J (narrowed_by b (point_at time x) t)
  unfolding narrowed_by
  narrowed_holds b x i f = go (lt (time x) t) refl
    where
      go : (u : Bool) → lt (time x) t ≡ u → J (cond u (record { lo = point_at time x; hi = b.hi }) (record { lo = b.lo; hi = point_at time x }))
      go true e = p.lower b x i f e
      go false e = p.upper b x i f e

  go_on_ends : (again : Bracket → Float → Ending) → ((b : Bracket) (x : Float) → I b x → Ends time t I J (again b x))
      → (n : ℕ) (b : Bracket) (y : Try) → J b → OfGuess (Inside b) y → Ends time t I J (go_on again n b y)
  go_on_ends again h n b no_guess j w = j
  go_on_ends again h n b (guess x) j w = h b x (p.next b x j w.0 w.1)

  turn_ends : (n : ℕ) (b : Bracket) (x : Float) (onward : Bracket → Try → Ending) → I b x → (J (narrowed_by b (point_at time x) t) → Ends time t I J (turned time t n b x onward))
      → Ends time t I J (guessed time t n b x onward)
  turn_ends n b x onward i on = guessed_by time t n b x onward (Ends time t I J) (λ f e. (f, e, (b, i))) (λ f. on (narrowed_holds b x i f)) (λ f. (x, f, (b, i)))

  hunt_ends : (left n : ℕ) (b : Bracket) (x : Float) → I b x → Ends time t I J (hunt time t left n b x)
  unfolding hunt
  hunt_ends zero n b x i = turn_ends (n + 1) b x (λ new y. spent new (n + 1)) i (λ j. j)
  hunt_ends (suc left) n b x i =
      let g = point_at time x in
      let again = hunt time t left (n + 1) in
      turn_ends (n + 1) b x (go_on again (n + 1)) i
      (λ j. go_on_ends again (hunt_ends left (n + 1)) (n + 1) (narrowed_by b g t) (next_guess b g t) j (next_inside b g t))

  pub search_ends : (limit : ℕ) (b : Bracket) → I b (first_guess b t) → Ends time t I J (search_of time t limit b)
  unfolding search_of
  search_ends limit b i = hunt_ends (limit - 1) 0 b (first_guess b t) i

  -- another time, which is the same at each guess
  module _ (other : Float → Float) (same : (b : Bracket) (x : Float) → I b x → time x ≡ other x) where
    turn_same : (n : ℕ) (b : Bracket) (x : Float) (on also : Bracket → Try → Ending) → I b x → (J (narrowed_by b (point_at time x) t) → turned time t n b x on ≡ turned time t n b x also)
        → guessed time t n b x on ≡ guessed other t n b x also
    turn_same n b x on also i h = rw (← same b x i) (go (is_finite (time x)) (is_near (time x) t) refl)
      where
        go : (u v : Bool) → is_finite (time x) ≡ u → cond u (cond v (solved x n) (turned time t n b x on)) (lost n) ≡ cond u (cond v (solved x n) (turned time t n b x also)) (lost n)
        go true true f = refl
        go true false f = h (narrowed_holds b x i f)
        go false v f = refl

    go_on_same : (again also : Bracket → Float → Ending) → ((b : Bracket) (x : Float) → I b x → again b x ≡ also b x)
        → (n : ℕ) (b : Bracket) (y : Try) → J b → OfGuess (Inside b) y → go_on again n b y ≡ go_on also n b y
    go_on_same again also h n b no_guess j w = refl
    go_on_same again also h n b (guess x) j w = h b x (p.next b x j w.0 w.1)

    hunt_same : (left n : ℕ) (b : Bracket) (x : Float) → I b x → hunt time t left n b x ≡ hunt other t left n b x
    unfolding hunt
    hunt_same zero n b x i = turn_same (n + 1) b x (λ new y. spent new (n + 1)) (λ new y. spent new (n + 1)) i (λ j. refl)
    hunt_same (suc left) n b x i =
        let g = point_at time x in
        let again = hunt time t left (n + 1) in
        let also = hunt other t left (n + 1) in
        turn_same (n + 1) b x (go_on again (n + 1)) (go_on also (n + 1)) i
        (λ j. go_on_same again also (hunt_same left (n + 1)) (n + 1) (narrowed_by b g t) (next_guess b g t) j (next_inside b g t))

    pub search_same : (limit : ℕ) (b : Bracket) → I b (first_guess b t) → search_of time t limit b ≡ search_of other t limit b
    unfolding search_of
    search_same limit b i = hunt_same (limit - 1) 0 b (first_guess b t) i

  -- of a solved search, and of one that names a bracket
  pub solved_has : (limit : ℕ) (b : Bracket) → I b (first_guess b t) → {x : Float} {n : ℕ} → search_of time t limit b ≡ solved x n
      → (is_finite (time x) ≡ true) × (is_near (time x) t ≡ true) × ((b : Bracket) × I b x)
  solved_has limit b i e = subst (Ends time t I J) e (search_ends limit b i)

  pub named_has : (limit : ℕ) (b : Bracket) → I b (first_guess b t) → (new : Bracket) → Names (search_of time t limit b) new → J new
  named_has limit b i new w =
      let h = search_ends limit b i in
      elim w.1 [ inl e ↦ subst (Ends time t I J) e h | inr e ↦ subst (Ends time t I J) e h ]
