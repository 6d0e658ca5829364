-- RULES, The search, for any unknown: `time` is the time that a guess comes to, `t` the wanted one. Definitions only.
use Rattle.std.specs.Prelude.{ℕ, zero, suc, ◌+◌, ◌-◌, Bool, cond, ◌&&◌, leb, Float}
use Rattle.std.specs.Float.Ieee.{lt, le}
use Rattle.exact.specs.Numbers.{◌⊕◌, ◌⊖◌, ◌⊗◌, ◌⊘◌, is_finite, is_near, middle}
use Rattle.search.specs.declared.Point.{Point}
use Rattle.search.specs.declared.Bracket.{Bracket}
use Rattle.search.specs.Said.{Try, guess, no_guess, Ending, solved, closed, spent, lost}

-- refusal 3: the limits of guesses that a search takes
abbrev pub limit_allowed : ℕ → Bool
limit_allowed limit = leb 1 limit && leb limit 100

-- in the bracket, whose ends count as inside
abbrev pub within : Bracket → Float → Bool
within b x = le b.lo.x x && le x b.hi.x

-- strictly inside the bracket
abbrev pub inside : Bracket → Float → Bool
inside b x = lt b.lo.x x && lt x b.hi.x

-- lo + (hi - lo)/2
abbrev pub middle_of : Bracket → Float
middle_of b = middle b.lo.x b.hi.x

-- the first guess: t where it lies in the starting bracket, else the middle
unfoldable pub first_guess : Bracket → Float → Float
first_guess b t = cond (within b t) t (middle_of b)

-- 3: the guess, with its time, replaces lo where T < t, and hi where not
unfoldable pub narrowed_by : Bracket → Point → Float → Bracket
narrowed_by b g t = cond (lt g.time t) (record { lo = g; hi = b.hi }) (record { lo = b.lo; hi = g })

-- the bound that the guess replaces, and the other one
abbrev pub replaced : Bracket → Point → Float → Point
replaced b g t = cond (lt g.time t) b.lo b.hi

abbrev pub other : Bracket → Point → Float → Point
other b g t = cond (lt g.time t) b.hi b.lo

-- x + ((t - T)/(T - Tb))*(x - b)
abbrev pub line_through : Point → Point → Float → Float
line_through g b t = g.x ⊕ ((t ⊖ g.time) ⊘ (g.time ⊖ b.time)) ⊗ (g.x ⊖ b.x)

-- the first of three that lies strictly inside
abbrev pub choose : Bracket → Float → Float → Float → Try
choose new e i m = cond (inside new e) (guess e) (cond (inside new i) (guess i) (cond (inside new m) (guess m) no_guess))

-- 5: the extrapolation by the bound that step 3 has replaced, where it lies strictly inside the new bracket; else the interpolation by the other
-- bound; else the middle; else none, refusal 9
unfoldable pub next_guess : Bracket → Point → Float → Try
next_guess b g t = let new = narrowed_by b g t in choose new (line_through g (replaced b g t) t) (line_through g (other b g t) t) (middle_of new)

-- one guess x, the n-th, in the bracket b: 1, T is not finite; 2, |T - t| ≤ 2^-36; else on with the new bracket and step 5
abbrev pub guessed : (time : Float → Float) (t : Float) (n : ℕ) (b : Bracket) (x : Float) → (Bracket → Try → Ending) → Ending
guessed time t n b x onward =
    let g : Point = record { x = x; time = time x } in
    cond (is_finite (time x))
    (cond (is_near (time x) t) (solved x n) (onward (narrowed_by b g t) (next_guess b g t)))
    (lost n)

-- 5: on with the next guess, `again`; where there is none, the bracket has closed
abbrev pub go_on : (Bracket → Float → Ending) → ℕ → Bracket → Try → Ending
go_on again n new no_guess = closed new n
go_on again n new (guess x) = again new x

-- the guess x after n guesses, with `left` more allowed after it: 4, the count has come to the limit; then 5
unfoldable pub hunt : (time : Float → Float) (t : Float) (left : ℕ) (n : ℕ) → Bracket → Float → Ending
hunt time t zero n b x = guessed time t (n + 1) b x (λ new next. spent new (n + 1))
hunt time t (suc left) n b x = guessed time t (n + 1) b x (go_on (hunt time t left (n + 1)) (n + 1))

-- the whole search, with at most `limit` guesses
unfoldable pub search_of : (time : Float → Float) (t : Float) (limit : ℕ) → Bracket → Ending
search_of time t limit b = hunt time t (limit - 1) 0 b (first_guess b t)
