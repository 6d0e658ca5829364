-- The numbers given: the row of tests over a list refuses at the first place whose number is not finite, with what the caller gives to that
-- place (`refuses_first`, `first_refused`), and the same row with other numbers refuses at the same place (`given_again`).
use mathlib.Core.Path.{◌≡◌, refl, sym, ap, ◌∙◌}
use mathlib.Core.Bool.{Bool, true, false, cond, not}
use mathlib.Core.List.{List, [], ◌∷◌}
use Prim.Native.Nat.{ℕ, zero, suc, ◌+◌, ◌≤◌, ◌<◌}
use native.Mathlib.Numerals.{add-one}
use native.Mathlib.Omega.{arith}
use borrow.Author.Tests.{ltb-true, ltb-false}
use lib.Dec.{ltb}
use lib.ListN.{length, drop, get_or, drop_of_length-le}
use lib.Seq.{drop-cons}
use lib.Ieee.{Float, nan}
use Rattle.std.specs.Prelude.{Option, Some, None, Result, Ok, Err}
use Rattle.std.specs.List.{position, position_from}
use Rattle.std.proofs.lemmas.Iterator.Adapters.{position_from-zero}
use Rattle.exact.specs.Numbers.{is_finite}
use Rattle.rows.specs.Rows.{Checked, pass, refuse, must, checked}
use Rattle.rows.proofs.Laws.{Refuses, passes, refuses}
use Rattle.units.specs.declared.NotFinite.{NotFinite}
use Rattle.units.specs.Units.{finite_from, by_place}
use Rattle.units.specs.Said.{given_said}

-- the number at this place is not finite, and every one before is
pub record FirstNotFinite (list : List Float) (place : ℕ) : Type 0 where
  pub inside : place < length list
  pub not_finite : is_finite (get_or list place nan) ≡ false
  pub before : (i : ℕ) → i < place → is_finite (get_or list i nan) ≡ true

-- ---- the row of tests from a place on

module _ (number : ℕ → ℕ) (list : List Float) where
  abbrev pub left : (place : ℕ) → Checked (Unit {0})
  left place = finite_from number place (drop place list)

  turn : (place : ℕ) → place < length list → left place ≡ must (is_finite (get_or list place nan)) (number place) (left (place + 1))
  unfolding finite_from
  turn place h =
      ap (finite_from number place) (drop-cons list place nan h)
      ∙ ap (λ (n : ℕ). must (is_finite (get_or list place nan)) (number place) (finite_from number (place + 1) (drop n list))) (sym (add-one place))

  pub stopped : (place : ℕ) → place < length list → is_finite (get_or list place nan) ≡ false → left place ≡ refuse (number place)
  unfolding must
  stopped place h e = rw (turn place h, e) refl

  pub one_on : (place : ℕ) → place < length list → is_finite (get_or list place nan) ≡ true → left place ≡ left (place + 1)
  unfolding must
  one_on place h e = rw (turn place h, e) refl

  pub all_tested : (place : ℕ) → length list ≤ place → left place ≡ pass tt
  unfolding finite_from
  all_tested place h = ap (finite_from number place) (drop_of_length-le list h)

  -- ---- the first that is not finite

  pub first_refused : (place : ℕ) → FirstNotFinite list place → finite_from number 0 list ≡ refuse (number place)
  first_refused place f = reached place (omega arith) ∙ stopped place f.inside f.not_finite
    where
      reached : (i : ℕ) → i ≤ place → left 0 ≡ left i
      reached zero h = refl
      reached (suc i) h = reached i (omega arith) ∙ one_on i (omega (arith, f.inside)) (f.before i (omega arith)) ∙ ap left (add-one i)

  abbrev AllBefore : ℕ → Type 0
  AllBefore place = (i : ℕ) → i < place → is_finite (get_or list i nan) ≡ true

  and_this : (place : ℕ) → AllBefore place → is_finite (get_or list place nan) ≡ true → AllBefore (place + 1)
  and_this place before h i l = go (ltb i place) refl
    where
      go : (b : Bool) → ltb i place ≡ b → is_finite (get_or list i nan) ≡ true
      go true e = before i (ltb-true i place e)
      go false e = let is : i ≡ place = omega (arith, ltb-false i place e, l) in rw is h

  module _ {P : ℕ → Type 0} (at_first : (place : ℕ) → FirstNotFinite list place → P (number place)) where
    from : (n place : ℕ) → length list ≡ n + place → AllBefore place → Refuses P (left place)
    from zero place e before = rw (all_tested place (omega arith)) passes
    from (suc n) place e before = go (λ all. from n (place + 1) (omega arith) all) (is_finite (get_or list place nan)) refl
      where
        inside : place < length list
        inside = omega arith

        go : (AllBefore (place + 1) → Refuses P (left (place + 1))) → (b : Bool) → is_finite (get_or list place nan) ≡ b → Refuses P (left place)
        go others true h = rw (one_on place inside h) (others (and_this place before h))
        go others false h = rw (stopped place inside h) (refuses (at_first place (record { inside = inside; not_finite = h; before = before })))

    pub refuses_first : Refuses P (finite_from number 0 list)
    refuses_first = from (length list) 0 (omega arith) (λ i h. absurd (omega (arith, h)))

-- ---- the first that is not finite, as a search finds it

abbrev pub is_first : Option ℕ → Checked (Unit {0})
is_first (Some place) = refuse place
is_first None = pass tt

by_first_from : (place : ℕ) (list : List Float) → is_first (position_from (λ x. not (is_finite x)) place list) ≡ finite_from by_place place list
unfolding finite_from must
by_first_from place [] = refl
by_first_from place (x ∷ rest) = go (is_finite x) (by_first_from (place + 1) rest)
  where
    go : (b : Bool) → is_first (position_from (λ x. not (is_finite x)) (place + 1) rest) ≡ finite_from by_place (place + 1) rest
        → is_first (cond (not b) (Some place) (position_from (λ x. not (is_finite x)) (place + 1) rest)) ≡ must b place (finite_from by_place (place + 1) rest)
    go true e = e
    go false e = refl

pub by_first : (list : List Float) → is_first (position (λ x. not (is_finite x)) list) ≡ finite_from by_place 0 list
by_first list = ap is_first (position_from-zero (λ x. not (is_finite x)) list) ∙ by_first_from 0 list

-- ---- the same row with other numbers

abbrev again : (ℕ → ℕ) → Checked (Unit {0}) → Checked (Unit {0})
again number (pass good) = pass tt
again number (refuse place) = refuse (number place)

renumbered : (number : ℕ → ℕ) (place : ℕ) (list : List Float) → finite_from number place list ≡ again number (finite_from by_place place list)
unfolding finite_from must
renumbered number place [] = refl
renumbered number place (x ∷ rest) = go (renumbered number (place + 1) rest) (is_finite x)
  where
    go : finite_from number (place + 1) rest ≡ again number (finite_from by_place (place + 1) rest) → (b : Bool) → must b (number place) (finite_from number (place + 1) rest) ≡ again number (must b place (finite_from by_place (place + 1) rest))
    go others true = others
    go others false = refl

-- so what `given` answers says what the caller's own row comes to
pub given_again : (number : ℕ → ℕ) (list : List Float) (a : Result (Unit {0}) NotFinite) → given_said a ≡ finite_from by_place 0 list → finite_from number 0 list ≡ checked (λ why. number why.place) a
given_again number list (Ok good) e = renumbered number 0 list ∙ ap (again number) (sym e)
given_again number list (Err why) e = renumbered number 0 list ∙ ap (again number) (sym e)
