-- What an accepted deck has: its cards, a verdict for each, and totals that add up to its count. And the list afterwards: a refused deck leaves
-- it as it was lent, an accepted one writes the verdicts into its first places, and any deck leaves it as long as it was. And what an answer
-- tells of the cards.
use mathlib.Core.Path.{◌≡◌, refl, sym, ap, ◌∙◌}
use mathlib.Core.Bool.{true≢false}
use mathlib.Core.List.{List, ◌++◌, map}
use Prim.Native.Nat.{ℕ, ◌+◌, ◌≤◌}
use native.Mathlib.Omega.{arith}
use borrow.Author.Tests.{leb-true, le-leb}
use lib.Dec.{leb}
use lib.ListN.{length, take, drop, length-append, length-drop, length-map}
use lib.Seq.{take_at, drop_at}
use Rattle.rows.specs.Rows.{Checked, pass, refuse, must, onward}
use Rattle.rows.proofs.Laws.{pass_once, test_passed, rows_passed}
use Rattle.contents.specs.Contents.{Deck, most_cards, count_of, deck_in}
use Rattle.contents.proofs.Sizes.{few_cards}
use Rattle.ruling.specs.Said.{Said, number_in}
use Rattle.verdict.specs.Verdict.{verdict_of}
use Rattle.deck.specs.declared.Totals.{Totals}
use Rattle.deck.specs.Tally.{Residuals, tally_of}
use Rattle.deck.specs.Check.{verdicts_of, numbers_of, judged_of, tallied, answer_of, written, list_after}
use Rattle.deck.proofs.Tallied.{totals_add_up}

-- ---- an accepted deck: its cards, a verdict for each, and room for them

pub record Accepted (deck : List ℕ) (room : ℕ) (verdicts : List Said) : Type 0 where
  pub is : Deck
  pub deck_is : deck_in deck ≡ pass is
  pub verdicts_are : verdicts ≡ verdicts_of is.version is.cards
  pub few : count_of deck ≤ most_cards
  pub enough : count_of deck ≤ room
  pub as_many_verdicts : length verdicts ≡ count_of deck

pub accepted_means : (deck : List ℕ) (room : ℕ) (verdicts : List Said) → judged_of deck room ≡ pass verdicts → Accepted deck room verdicts
unfolding onward judged_of
accepted_means deck room verdicts h =
    let C = rows_passed (deck_in deck) (λ d. must (leb (count_of deck) room) 39 (pass (verdicts_of d.version d.cards))) h in
    let list = test_passed (leb (count_of deck) room) 39 (pass (verdicts_of C.0.version C.0.cards)) C.2 in
    let is : verdicts_of C.0.version C.0.cards ≡ verdicts = pass_once list.1 in
    let many = few_cards deck C.0 C.1 in
    record {
      is = C.0;
      deck_is = C.1;
      verdicts_are = sym is;
      few = many.1;
      enough = leb-true (count_of deck) room list.0;
      as_many_verdicts = sym (ap length is) ∙ length-map C.0.cards (verdict_of C.0.version) ∙ many.0;
    }

-- the three totals add up to the count, which the list has room for
pub record TotalsFit (deck : List ℕ) (room : ℕ) (totals : Totals) : Type 0 where
  pub add_up : totals.solved + totals.refused + totals.rejected ≡ count_of deck
  pub few : count_of deck ≤ most_cards
  pub enough : count_of deck ≤ room

pub totals_fit : (deck : List ℕ) (room : ℕ) (totals : Totals) (r : Residuals) → answer_of deck room ≡ pass (totals, r) → TotalsFit deck room totals
unfolding answer_of
totals_fit deck room totals r h =
    let J = rows_passed (judged_of deck room) (λ verdicts. pass (tally_of verdicts)) h in
    let a = accepted_means deck room J.0 J.1 in
    let is : tally_of J.0 ≡ (totals, r) = pass_once J.2 in
    record {
      add_up = sym (ap (λ (t : Totals × Residuals). t.0.solved + t.0.refused + t.0.rejected) is) ∙ totals_add_up J.0 ∙ a.as_many_verdicts;
      few = a.few;
      enough = a.enough;
    }

-- ---- the list afterwards

kept : (list : List ℕ) (m : Checked (List Said)) (k : ℕ) → tallied m ≡ refuse k → written m list ≡ list
unfolding onward
kept list (pass verdicts) k e = absurd (true≢false cc)
kept list (refuse n) k e = refl

-- a refused deck leaves it as it was lent
pub refused_keeps : (deck list : List ℕ) (k : ℕ) → answer_of deck (length list) ≡ refuse k → list_after deck list ≡ list
unfolding answer_of list_after
refused_keeps deck list k h = kept list (judged_of deck (length list)) k h

-- the verdicts go into the first places, and the places behind keep their values
pub accepted_writes : (deck list : List ℕ) (verdicts : List Said) → judged_of deck (length list) ≡ pass verdicts
    → (take (count_of deck) (list_after deck list) ≡ map number_in verdicts) × (drop (count_of deck) (list_after deck list) ≡ drop (count_of deck) list)
unfolding list_after
accepted_writes deck list verdicts h =
    let a = accepted_means deck (length list) verdicts h in
    let many : length (map number_in verdicts) ≡ count_of deck = length-map verdicts number_in ∙ a.as_many_verdicts in
    let is : written (judged_of deck (length list)) list ≡ map number_in verdicts ++ drop (count_of deck) list = rw (h, a.as_many_verdicts) refl in (
      ap (take (count_of deck)) is ∙ take_at (map number_in verdicts) (drop (count_of deck) list) (count_of deck) many,
      ap (drop (count_of deck)) is ∙ drop_at (map number_in verdicts) (drop (count_of deck) list) (count_of deck) many,
    )

-- any deck leaves it as long as it was
as_long : (deck list : List ℕ) (m : Checked (List Said)) → judged_of deck (length list) ≡ m → length (written m list) ≡ length list
as_long deck list (pass verdicts) h =
    let a = accepted_means deck (length list) verdicts h in
    omega (arith, length-append (map number_in verdicts) (drop (length verdicts) list), length-map verdicts number_in, length-drop (length verdicts) list, a.as_many_verdicts, a.enough)
as_long deck list (refuse k) h = refl

pub list_as_long : (deck list : List ℕ) → length (list_after deck list) ≡ length list
unfolding list_after
list_as_long deck list = as_long deck list (judged_of deck (length list)) refl

-- ---- what an answer tells of the cards

-- an accepted deck's cards: tally and totals are theirs, and the list begins with their verdicts' numbers
pub record Answered (deck list : List ℕ) (totals : Totals) (r : Residuals) : Type 0 where
  pub is : Deck
  pub deck_is : deck_in deck ≡ pass is
  pub tally : tally_of (verdicts_of is.version is.cards) ≡ (totals, r)
  pub as_many : totals.solved + totals.refused + totals.rejected ≡ length is.cards
  pub few : length is.cards ≤ most_cards
  pub numbers : list_after deck list ≡ numbers_of is.version is.cards ++ drop (length (verdicts_of is.version is.cards)) list

pub answered : (deck list : List ℕ) (totals : Totals) (r : Residuals) → answer_of deck (length list) ≡ pass (totals, r) → Answered deck list totals r
unfolding answer_of list_after
answered deck list totals r h =
    let J = rows_passed (judged_of deck (length list)) (λ verdicts. pass (tally_of verdicts)) h in
    let a = accepted_means deck (length list) J.0 J.1 in
    let many = few_cards deck a.is a.deck_is in
    record {
      is = a.is;
      deck_is = a.deck_is;
      tally = sym (ap tally_of a.verdicts_are) ∙ pass_once J.2;
      as_many = (totals_fit deck (length list) totals r h).add_up ∙ sym many.0;
      few = omega (arith, many.0, many.1);
      numbers = ap (λ (m : Checked (List Said)). written m list) (J.1 ∙ ap pass a.verdicts_are);
    }

-- a list with 256 places is never too short: a deck is refused for its contents alone
never_short : (count room k : ℕ) (m : Checked Deck) → ((d : Deck) → m ≡ pass d → count ≤ room)
    → tallied (onward m (λ d. must (leb count room) 39 (pass (verdicts_of d.version d.cards)))) ≡ refuse k → m ≡ refuse k
unfolding onward must
never_short count room k (pass d) h e = let passed = rw (le-leb count room (h d refl)) at e in absurd (true≢false cc)
never_short count room k (refuse n) h e = cc

pub refused_contents : (deck : List ℕ) (room k : ℕ) → most_cards ≤ room → answer_of deck room ≡ refuse k → deck_in deck ≡ refuse k
unfolding answer_of judged_of
refused_contents deck room k h e = never_short (count_of deck) room k (deck_in deck) (λ d is. omega (arith, (few_cards deck d is).1)) e
