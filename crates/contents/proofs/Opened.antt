-- What the tests of a deck's contents tell: contents that pass have a version and at most 256 cards, which are the cards from the first entry
-- on.
use mathlib.Core.Path.{◌≡◌, refl, sym, ap, ap₂, subst, ◌∙◌}
use mathlib.Core.List.{List}
use Prim.Native.Nat.{ℕ, ◌≤◌}
use borrow.Author.Tests.{leb-true}
use lib.Dec.{leb}
use lib.ListN.{length}
use Rattle.rows.specs.Rows.{Checked, pass, refuse, must, onward}
use Rattle.rows.proofs.Laws.{pass_once, test_passed, rows_passed}
use Rattle.version.specs.declared.Version.{Version}
use Rattle.version.specs.Version.{version_of}
use Rattle.card.specs.Fields.{Card}
use Rattle.contents.specs.Contents.{Deck, header_size, entry_at, most_cards, version_word, count_of, cards_from, deck_in, counting, counted_in, Passes}
use Rattle.contents.proofs.Cards.{KindsFrom, kinds_named}

-- a deck from its version and what its entries come to
abbrev pub with_version : Version → Checked (List Card) → Checked Deck
with_version v m = onward m (λ cards. pass (record { version = v; cards = cards }))

pub record Opened (deck : List ℕ) (v : Version) (count : ℕ) : Type 0 where
  pub is : count ≡ count_of deck
  pub version : version_of (version_word deck) ≡ pass v
  pub most : count ≤ most_cards
  pub inside : entry_at count ≤ length deck
  pub deck_is : deck_in deck ≡ with_version v (cards_from v deck count 0 (entry_at count))

-- a deck that passes: its cards are those from its first entry on
pub opened_to : (deck : List ℕ) (d : Deck) → deck_in deck ≡ pass d → Opened deck d.version (count_of deck) × (cards_from d.version deck (count_of deck) 0 (entry_at (count_of deck)) ≡ pass d.cards)
unfolding must deck_in
opened_to deck d h =
    let n = count_of deck in
    let first = test_passed (leb header_size (length deck)) 30 _ h in
    let R = rows_passed (version_of (version_word deck)) _ first.1 in
    let v = R.0 in
    let third = test_passed (leb n most_cards) 32 _ R.2 in
    let fourth = test_passed (leb (entry_at n) (length deck)) 33 _ third.1 in
    let C = rows_passed (cards_from v deck n 0 (entry_at n)) _ fourth.1 in
    let is : ◌≡◌ {A = Deck} (record { version = v; cards = C.0 }) d = pass_once C.2 in
    subst (λ (e : Deck). Opened deck e.version n × (cards_from e.version deck n 0 (entry_at n) ≡ pass e.cards)) is (
      record {
        is = refl;
        version = R.1;
        most = leb-true n most_cards third.0;
        inside = leb-true (entry_at n) (length deck) fourth.0;
        deck_is = h ∙ sym fourth.1;
      },
      C.1,
    )

-- version and count that were found are those of the deck
pub found : (deck : List ℕ) (v : Version) (count : ℕ) → counted_in deck ≡ pass (v, count) → (d : Deck) × (deck_in deck ≡ pass d) × (d.version ≡ v) × (count_of deck ≡ count)
found deck v count h =
    let P = rows_passed (deck_in deck) (λ d. pass (d.version, count_of deck)) h in
    let e : ◌≡◌ {A = Version × ℕ} (P.0.version, count_of deck) (v, count) = pass_once P.2 in
    (P.0, P.1, ap (λ (p : Version × ℕ). p.0) e, ap (λ (p : Version × ℕ). p.1) e)

pub opened : (deck : List ℕ) (v : Version) (count : ℕ) → counted_in deck ≡ pass (v, count) → Opened deck v count × Passes (cards_from v deck count 0 (entry_at count))
opened deck v count h =
    let f = found deck v count h in
    let o = opened_to deck f.0 f.1 in
    subst (λ (p : Version × ℕ). Opened deck p.0 p.1 × Passes (cards_from p.0 deck p.1 0 (entry_at p.1))) (ap₂ (λ (w : Version) (n : ℕ). (w, n)) f.2 f.3) (o.0, subst Passes (sym o.1) tt)

-- the entries name their kinds
pub all_kinds_named : (deck : List ℕ) (d : Deck) → deck_in deck ≡ pass d → KindsFrom deck 0 d.cards
all_kinds_named deck d h = kinds_named d.version deck (count_of deck) 0 (entry_at (count_of deck)) d.cards (opened_to deck d h).1

-- counting goes on from what the entries come to
pub counted_on : (v : Version) (count : ℕ) (m : Checked (List Card)) → onward (with_version v m) (λ d. pass (d.version, count)) ≡ counting v count m
unfolding onward
counted_on v count (pass cards) = refl
counted_on v count (refuse k) = refl
