-- The tally of an accepted deck is finite and has no minus: RULES, Tally 4. After n residuals, the sum is at most n times the bound of one, which is
-- a binary64 number for as many cards as a deck may have, so that no rounding leads past it. That over n is the bound of one.
use mathlib.Core.Path.{◌≡◌, refl, sym, ap, ◌∙◌, subst}
use mathlib.Core.Logic.{inl, inr}
use mathlib.Core.List.{List, [], ◌∷◌, ◌++◌}
use Prim.Native.Nat.{ℕ, zero, suc, ◌+◌, ◌*◌, ◌^◌, ◌≤◌, ◌<◌}
use native.Mathlib.Nat.{le_trans, le_of_eq, mul_assoc, mul_comm, mul-pos, mul-le-mul_right}
use native.Mathlib.Omega.{arith}
use lib.ListN.{length, length-append, length-map}
use lib.IntN.{pos}
use lib.Pow.{pow_pos}
use lib.Ieee.{Float, binary64, low, of_int}
use Rattle.exact.specs.Numbers.{◌⊘◌}
use Rattle.exact.proofs.Zero.{nought_number, nought_steps, nought_plus}
use Rattle.exact.proofs.Most.{AtMost, whole_steps, add_most, div_most}
use Rattle.rows.specs.Rows.{pass}
use Rattle.rows.proofs.Laws.{pass_once, rows_passed}
use Rattle.version.specs.declared.Version.{Version}
use Rattle.card.specs.Fields.{Card}
use Rattle.contents.specs.Contents.{Deck, most_cards, deck_in}
use Rattle.contents.proofs.Sizes.{few_cards}
use Rattle.ruling.specs.Said.{Said, solved, refused, rejected}
use Rattle.compared.specs.Compared.{most_residual}
use Rattle.compared.proofs.Seconds.{times_held, held}
use Rattle.verdict.specs.Verdict.{verdict_of}
use Rattle.deck.specs.declared.Totals.{Totals}
use Rattle.deck.specs.declared.tally.Running.{Running}
use Rattle.deck.specs.Tally.{nothing, counted, counted_all, Residuals, known, residuals_of, tally_of}
use Rattle.deck.specs.Check.{verdicts_of, judged_of, answer_of}
use Rattle.deck.proofs.Tallied.{total_of, totals_add_up, known_is}
use Rattle.deck.proofs.Accepted.{accepted_means}
use Rattle.deck.proofs.Worst.{Among, card_residuals_most, worst_of_cards}

-- ---- the sum

-- as many residuals as were added, each at its most
abbrev Summed : Running → Type 0
Summed n = AtMost (n.solved * most_residual) n.sum

sum_most : (n : Running) (verdicts : List Said) → total_of n + length verdicts ≤ most_cards → Summed n → ((r : Float) → Among r verdicts → AtMost most_residual r) → Summed (counted_all n verdicts)
unfolding counted_all
sum_most n [] few s all = s
sum_most n (solved x ∷ verdicts) few s all =
    let one = all x (inl refl) in
    let more = add_most n.sum x s.plus one.plus ((n.solved + 1) * most_residual) (times_held (n.solved + 1) (omega arith)) (omega (arith, s.most, one.most)) in
    sum_most (counted n (solved x)) verdicts (omega arith) more (λ r m. all r (inr m))
sum_most n (refused ∷ verdicts) few s all = sum_most (counted n refused) verdicts (omega arith) s all
sum_most n (rejected k ∷ verdicts) few s all = sum_most (counted n (rejected k)) verdicts (omega arith) s all

from_nothing : Summed nothing
from_nothing = record { plus = (nought_number, nought_plus); most = rw nought_steps (omega arith) }

among_first : (r : Float) (before after : List Said) → Among r before → Among r (before ++ after)
among_first r [] after m = elim m [ ]
among_first r (solved x ∷ before) after (inl e) = inl e
among_first r (solved x ∷ before) after (inr m) = inr (among_first r before after m)
among_first r (refused ∷ before) after m = among_first r before after m
among_first r (rejected k ∷ before) after m = among_first r before after m

-- ---- the mean

mean_most : (n : Running) → n.solved ≤ most_cards → (n.solved ≡ 0 → ⊥) → Summed n → AtMost most_residual (n.sum ⊘ of_int binary64 (pos n.solved))
mean_most n few some s =
    let k = n.solved in
    let L = 2 ^ low binary64 in
    let w = whole_steps k (omega arith) in
    let over : k * most_residual * L ≡ most_residual * (k * L) = ap (λ (z : ℕ). z * L) (mul_comm k most_residual) ∙ mul_assoc most_residual k L in
    div_most n.sum (of_int binary64 (pos k)) s.plus w.0 most_residual held (rw w.1 (mul-pos (above k some) (pow_pos (low binary64)))) (rw w.1 (le_trans (mul-le-mul_right L s.most) (le_of_eq over)))
  where
    above : (k : ℕ) → (k ≡ 0 → ⊥) → 0 < k
    above zero not = absurd (not refl)
    above (suc k) not = omega arith

-- ---- of at most 256 cards

solved_few : (verdicts : List Said) → length verdicts ≤ most_cards → (counted_all nothing verdicts).solved ≤ most_cards
solved_few verdicts few = omega (arith, few, totals_add_up verdicts)

module _ (version : Version) (cards : List Card) (few : length cards ≤ most_cards) where
  no_more : length (verdicts_of version cards) ≤ most_cards
  no_more = omega (arith, few, length-map cards (verdict_of version))

  -- each sum on the way
  sums_most : (before after : List Said) → verdicts_of version cards ≡ before ++ after → AtMost (most_cards * most_residual) (counted_all nothing before).sum
  sums_most before after e =
      let fewer : length before ≤ most_cards = omega (arith, no_more, ap length e ∙ length-append before after) in
      let s = sum_most nothing before (omega (arith, fewer)) from_nothing (λ r m. card_residuals_most version cards r (subst (Among r) (sym e) (among_first r before after m))) in
      record { plus = s.plus; most = le_trans s.most (mul-le-mul_right most_residual (solved_few before fewer)) }

  both_most : (mean worst : Float) → residuals_of (counted_all nothing (verdicts_of version cards)) ≡ known mean worst → AtMost most_residual mean × AtMost most_residual worst
  both_most mean worst k =
      let n = counted_all nothing (verdicts_of version cards) in
      let is = known_is n mean worst k in (
        subst (AtMost most_residual) is.1 (mean_most n (solved_few (verdicts_of version cards) no_more) is.0 (sum_most nothing (verdicts_of version cards) (omega (arith, no_more)) from_nothing (card_residuals_most version cards))),
        card_residuals_most version cards worst (worst_of_cards version cards mean worst k).one_of_them,
      )

-- ---- of every accepted deck

cards_few : (deck : List ℕ) (d : Deck) → deck_in deck ≡ pass d → length d.cards ≤ most_cards
cards_few deck d h = let f = few_cards deck d h in omega (arith, f.0, f.1)

-- each sum of residuals on the way
pub sums_finite : (deck : List ℕ) (d : Deck) → deck_in deck ≡ pass d → (before after : List Said) → verdicts_of d.version d.cards ≡ before ++ after → AtMost (most_cards * most_residual) (counted_all nothing before).sum
sums_finite deck d h = sums_most d.version d.cards (cards_few deck d h)

-- mean and worst of the tally
pub tally_finite : (deck : List ℕ) (d : Deck) (mean worst : Float) → deck_in deck ≡ pass d → residuals_of (counted_all nothing (verdicts_of d.version d.cards)) ≡ known mean worst → AtMost most_residual mean × AtMost most_residual worst
tally_finite deck d mean worst h = both_most d.version d.cards (cards_few deck d h) mean worst

-- and of what the check answers
pub answer_finite : (deck : List ℕ) (room : ℕ) (totals : Totals) (mean worst : Float) → answer_of deck room ≡ pass (totals, known mean worst) → AtMost most_residual mean × AtMost most_residual worst
unfolding answer_of
answer_finite deck room totals mean worst h =
    let J = rows_passed (judged_of deck room) (λ verdicts. pass (tally_of verdicts)) h in
    let a = accepted_means deck room J.0 J.1 in
    tally_finite deck a.is mean worst a.deck_is (sym (ap (λ (v : List Said). (tally_of v).1) a.verdicts_are) ∙ ap (λ (t : Totals × Residuals). t.1) (pass_once J.2))
