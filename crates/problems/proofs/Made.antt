-- The cards of problems: as many as there are problems, each with its kind's size; and what all problems come to, a deck or a refusal.
use mathlib.Core.Path.{◌≡◌, refl, ap, ◌∙◌}
use mathlib.Core.List.{List}
use Prim.Native.Nat.{ℕ, zero, suc, ◌*◌, ◌/◌, ◌%◌, ◌≤◌, ◌<◌}
use native.Mathlib.Nat.{mul-suc}
use native.Mathlib.Omega.{arith}
use borrow.Author.Tests.{le-leb, lt-leb, eq-eqb, ne_eqb}
use lib.ListN.{length, take, drop, length-drop}
use lib.Seq.{length-take-le}
use Rattle.rows.specs.Rows.{pass, refuse, must}
use Rattle.version.specs.declared.Version.{Version}
use Rattle.version.specs.Version.{tag_size}
use Rattle.kepler.specs.Kepler.{kepler_of}
use Rattle.card.specs.Fields.{problem_size, given_size, problem_of}
use Rattle.card.proofs.Packed.{made_size}
use Rattle.contents.specs.Contents.{most_cards}
use Rattle.contents.proofs.Cards.{AllSized}
use Rattle.problems.specs.Problems.{cards_for, deck_from, predicted_deck}
use Rattle.problems.proofs.Answering.{some}
use Rattle.problems.proofs.Widths.{inside}

-- ---- one problem, as it is given

-- its bytes, and those of object and epoch behind them
pub record Parted (v : Version) (given : List ℕ) : Type 0 where
  pub problem : length (take problem_size given) ≡ problem_size
  pub tag : length (drop problem_size given) ≡ tag_size v

pub parted : (v : Version) (given : List ℕ) → length given ≡ given_size v → Parted v given
parted v given h = record { problem = length-take-le problem_size given (omega (arith, h)); tag = length-drop problem_size given ∙ omega (arith, h) }

-- ---- the first n problems, which are there

pub first_size : (v : Version) (n : ℕ) (problems : List ℕ) → given_size v * suc n ≤ length problems → length (take (given_size v) problems) ≡ given_size v
first_size v n problems h = length-take-le (given_size v) problems (omega (arith, mul-suc (given_size v) n))

pub others : (v : Version) (n : ℕ) (problems : List ℕ) → given_size v * suc n ≤ length problems → given_size v * n ≤ length (drop (given_size v) problems)
others v n problems h = omega (arith, length-drop (given_size v) problems, mul-suc (given_size v) n)

pub as_many : (v : Version) (n : ℕ) (problems : List ℕ) → length (cards_for v n problems) ≡ n
unfolding cards_for
as_many v zero problems = refl
as_many v (suc n) problems = ap suc (as_many v n (drop (given_size v) problems))

pub all_sized : (v : Version) (n : ℕ) (problems : List ℕ) → given_size v * n ≤ length problems → AllSized v (cards_for v n problems)
unfolding cards_for
all_sized v zero problems h = tt
all_sized v (suc n) problems h =
    let given = take (given_size v) problems in
    let p = parted v given (first_size v n problems h) in
    (made_size v (take problem_size given) (drop problem_size given) p.problem p.tag (kepler_of (problem_of given)), all_sized v n (drop (given_size v) problems) (others v n problems h))

-- ---- all problems

module _ (v : Version) (problems : List ℕ) where
  abbrev count : ℕ
  count = length problems / given_size v

  pub too_many : most_cards < count → predicted_deck v problems ≡ refuse 40
  unfolding predicted_deck must
  too_many h = rw (lt-leb count most_cards h) refl

  pub ends_inside : count ≤ most_cards → (length problems % given_size v ≡ 0 → ⊥) → predicted_deck v problems ≡ refuse 46
  unfolding predicted_deck must
  ends_inside h e = rw (le-leb count most_cards h, ne_eqb (length problems % given_size v) 0 e) refl

  pub all_whole : count ≤ most_cards → length problems % given_size v ≡ 0 → predicted_deck v problems ≡ pass (deck_from v problems)
  unfolding predicted_deck must
  all_whole h e = rw (le-leb count most_cards h, eq-eqb (length problems % given_size v) 0 e) refl

  pub sized : AllSized v (deck_from v problems).cards
  sized = all_sized v count problems (inside (given_size v) (some v) (length problems))
