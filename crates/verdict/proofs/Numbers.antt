-- The numbers on refused cards, and cards from before. One with the number 1, as cards from before have it, is accepted exactly where Kepler refuses
-- with one of 101 to 108 (`before_exactly`), and one with another number exactly where Kepler gives that number (`own_exactly`). A solved card whose
-- problem has a number that is not finite is rejected with that one's number (`solved_not_finite`).
use mathlib.Core.Path.{◌≡◌, refl, sym, ap, subst}
use mathlib.Core.Logic.{◌↔◌}
use mathlib.Core.Bool.{Bool, true, false, true≢false, ◌&&◌, ◌||◌}
use mathlib.Core.List.{List}
use Prim.Native.Nat.{ℕ, ◌<◌}
use native.Mathlib.Omega.{arith}
use borrow.Author.Tests.{eqb-true, eq-eqb, ne_eqb}
use lib.Dec.{leb, ltb, eqb, le→leb, lt→ltb}
use lib.Ieee.{Float}
use Rattle.exact.proofs.Basics.{both}
use Rattle.rows.specs.Rows.{Checked, must, onward}
use Rattle.rows.proofs.Laws.{between_is}
use Rattle.units.proofs.Places.{FirstNotFinite}
use Rattle.search.specs.Answers as answer
use Rattle.search.proofs.Answers.{RefusalHas}
use Rattle.conic.specs.Said as conic
use Rattle.conic.specs.Said.{problem_numbers, input_number, inputs, is_input, is_meant_by}
use Rattle.entry.proofs.Refusals.{Numbered, NamesFirst, first_refuses}
use Rattle.kepler.specs.Kepler.{kepler_of}
use Rattle.kepler.proofs.Laws.{refusal_numbered, names_first, first_named}
use Rattle.card.specs.declared.Kind.TheVariants as kind
use Rattle.card.specs.Fields.{Parts, problem_of, spare_of, refusal_of, last_spare_of}
use Rattle.ruling.specs.Said.{rejected, number_in}
use Rattle.compared.specs.Said.{as_refused}
use Rattle.verdict.specs.Verdict.{is_refused_as, solved_card, verdict_on}
use Rattle.verdict.proofs.Tests.{refused_tests}
use Rattle.verdict.proofs.Accepted.{refused_means}

-- ---- what 1 means

-- of a number above 1 that 1 means, one of the eight
one_means : (k : ℕ) → Numbered k → is_meant_by k 1 ≡ true → is_input k ≡ true
one_means k small h = rw (ne_eqb k 1 (λ e. omega (arith, e, (between_is 1 (input_number inputs) k small).0))) at h

means_one : (place : ℕ) → place < inputs → is_meant_by (input_number place) 1 ≡ true
means_one place h =
    let k = input_number place in
    let yes : is_input k ≡ true = (both (leb (input_number 0) k) (ltb k (input_number inputs))).1 (le→leb (input_number 0) k (omega arith), lt→ltb k (input_number inputs) (omega arith)) in
    rw (ne_eqb k 1 (λ e. omega (arith, e)), yes) refl

-- where 1 means Kepler's refusal, a number that is given is not finite
module _ (list : List Float) where
  first_of : (s : conic.Said) → RefusalHas Numbered Numbered s → RefusalHas (NamesFirst list) (NamesFirst list) s → is_refused_as s 1 ≡ true → (place : ℕ) × FirstNotFinite list place
  first_of (answer.solved x n state) small names h = absurd (true≢false (sym h))
  first_of (answer.refused k n) small names h = let first = names (one_means k small h) in (first.0, first.2)
  first_of (answer.refused_with_bracket k n lo hi) small names h = let first = names (one_means k small h) in (first.0, first.2)

-- ---- what another number means

-- the answer is a refusal with this number
abbrev pub RefusesWith : ℕ → conic.Said → Type 0
RefusesWith k (answer.solved x n state) = ⊥
RefusesWith k (answer.refused why n) = why ≡ k
RefusesWith k (answer.refused_with_bracket why n lo hi) = why ≡ k

own_meaning : (k number : ℕ) → (number ≡ 1 → ⊥) → (is_meant_by k number ≡ true) ↔ (k ≡ number)
own_meaning k number other = (there (eqb k number) refl (eqb number 1) refl, λ e. rw (eq-eqb k number e) refl)
  where
    there : (a : Bool) → eqb k number ≡ a → (b : Bool) → eqb number 1 ≡ b → a || b && is_input k ≡ true → k ≡ number
    there true e b f h = eqb-true k number e
    there false e true f h = absurd (other (eqb-true number 1 f))
    there false e false f h = absurd (true≢false (sym h))

own_number : (k : ℕ) → (k ≡ 1 → ⊥) → (s : conic.Said) → (is_refused_as s k ≡ true) ↔ RefusesWith k s
own_number k other (answer.solved x n state) = (λ h. true≢false (sym h), λ e. absurd e)
own_number k other (answer.refused why n) = own_meaning why k other
own_number k other (answer.refused_with_bracket why n lo hi) = own_meaning why k other

-- ---- the cards

module _ (card : Parts) where
  accepted : spare_of card.question ≡ 0 → last_spare_of card.answer ≡ 0 → is_refused_as (kepler_of (problem_of card.question)) (refusal_of card.answer) ≡ true → number_in (verdict_on kind.Refused card) ≡ 0
  unfolding verdict_on
  accepted s l given = ap (λ (c : Checked (Unit {0})). number_in (as_refused c)) ((refused_tests card).1 (s, l, given))

  pub own_exactly : spare_of card.question ≡ 0 → last_spare_of card.answer ≡ 0 → (refusal_of card.answer ≡ 1 → ⊥) → (number_in (verdict_on kind.Refused card) ≡ 0) ↔ RefusesWith (refusal_of card.answer) (kepler_of (problem_of card.question))
  own_exactly s l other =
      let own = own_number (refusal_of card.answer) other (kepler_of (problem_of card.question)) in
      (λ z. own.0 (refused_means card z).2, λ given. accepted s l (own.1 given))

  pub before_exactly : spare_of card.question ≡ 0 → last_spare_of card.answer ≡ 0 → refusal_of card.answer ≡ 1 → (number_in (verdict_on kind.Refused card) ≡ 0) ↔ ((place : ℕ) × (place < inputs) × (kepler_of (problem_of card.question) ≡ answer.refused (input_number place) 0))
  before_exactly s l e = (there, back)
    where
      there : number_in (verdict_on kind.Refused card) ≡ 0 → (place : ℕ) × (place < inputs) × (kepler_of (problem_of card.question) ≡ answer.refused (input_number place) 0)
      there z =
          let p = problem_of card.question in
          let given = subst (λ (k : ℕ). is_refused_as (kepler_of p) k ≡ true) e (refused_means card z).2 in
          let first = first_of (problem_numbers p) (kepler_of p) (refusal_numbered p) (names_first p) given in
          (first.0, first.1.inside, first_named p first.0 first.1)

      back : (place : ℕ) × (place < inputs) × (kepler_of (problem_of card.question) ≡ answer.refused (input_number place) 0) → number_in (verdict_on kind.Refused card) ≡ 0
      back (place, h, k) = accepted s l (rw (k, e) (means_one place h))

  pub solved_not_finite : (place : ℕ) → spare_of card.question ≡ 0 → FirstNotFinite (problem_numbers (problem_of card.question)) place → verdict_on kind.Solved card ≡ rejected (input_number place)
  unfolding verdict_on solved_card must onward
  solved_not_finite place s f = rw (eq-eqb (spare_of card.question) 0 s, first_refuses (problem_of card.question) place f) refl
