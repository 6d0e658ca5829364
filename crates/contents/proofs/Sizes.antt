-- How many bytes a deck has: an accepted one has at most 38,920, and what stands behind the first 38,921 bytes changes nothing. For entries and
-- bodies lie within those, so each test but the last finds the same, and the last one, that nothing is left over, fails either way.
use mathlib.Core.Path.{◌≡◌, refl, sym, ap, ap₂, ◌∙◌, fun_ext}
use mathlib.Core.Bool.{Bool, true, false}
use mathlib.Core.List.{List, [], ◌∷◌, ◌++◌}
use Prim.Native.Nat.{ℕ, zero, suc, ◌+◌, ◌*◌, ◌≤◌, ◌<◌}
use native.Mathlib.Omega.{arith}
use borrow.Author.Tests.{eqb-true, leb-true, le-leb, ne_eqb}
use lib.Dec.{eqb, leb}
use lib.ListN.{length, take, drop, length-append, length-drop}
use lib.Seq.{take-append-le, drop-append-le}
use Rattle.words.proofs.Written.{value_at_front}
use Rattle.rows.specs.Rows.{Checked, pass, must, onward}
use Rattle.rows.proofs.Laws.{test_passed}
use Rattle.version.specs.declared.Version.{Version}
use Rattle.version.specs.Version.{version_of}
use Rattle.card.specs.declared.Kind.{Kind}
use Rattle.card.specs.Fields.{Card, size_of, largest_body}
use Rattle.card.proofs.Sizes.{size_most}
use Rattle.contents.specs.Contents.{Deck, header_size, entry_at, most_cards, version_word, count_of, entry_in, cards_from, deck_in, largest_deck, read_of_a_deck}
use Rattle.contents.proofs.Cards.{card_at, one_more, as_many}
use Rattle.contents.proofs.Opened.{with_version, opened_to}

-- ---- the largest deck

-- after the last body the deck ends, so `left` bodies from `at` on leave no more bytes for each than the largest body has
ends_by : (v : Version) (deck : List ℕ) (left i at : ℕ) (cards : List Card) → cards_from v deck left i at ≡ pass cards → length deck ≤ at + largest_body * left
unfolding cards_from
ends_by v deck zero i at cards h = omega (arith, eqb-true at (length deck) (test_passed (eqb at (length deck)) 38 (pass []) h).0)
ends_by v deck (suc left) i at cards h =
    let m = one_more v deck left i at cards h in
    omega (arith, ends_by v deck left (i + 1) (at + size_of v m.kind) m.rest m.others, size_most v m.kind)

-- an accepted deck has as many cards as it counts, and no more than a deck may have
pub few_cards : (deck : List ℕ) (d : Deck) → deck_in deck ≡ pass d → (length d.cards ≡ count_of deck) × (count_of deck ≤ most_cards)
few_cards deck d h =
    let o = opened_to deck d h in
    (as_many d.version deck (count_of deck) 0 (entry_at (count_of deck)) d.cards o.1, o.0.most)

-- and no more bytes than with as many of the largest cards: the number of RULES, The deck 8
pub largest_deck_lem : largest_deck ≡ 38920
largest_deck_lem = refl

pub largest : (deck : List ℕ) (d : Deck) → deck_in deck ≡ pass d → length deck ≤ largest_deck
largest deck d h =
    let o = opened_to deck d h in
    omega (arith, ends_by d.version deck (count_of deck) 0 (entry_at (count_of deck)) d.cards o.1, o.0.most)

-- ---- what stands behind

-- what a test leads to counts only where the test holds
behind_a_test : {A : Type 0} (t : Bool) (k : ℕ) (m n : Checked A) → (t ≡ true → m ≡ n) → must t k m ≡ must t k n
unfolding must
behind_a_test true k m n same = same refl
behind_a_test false k m n same = refl

module _ (front rest : List ℕ) where
  -- a test of the length that the front passes, the whole passes too
  same_test : (n : ℕ) → n ≤ length front → leb n (length (front ++ rest)) ≡ leb n (length front)
  same_test n h = le-leb n (length (front ++ rest)) (simp length-append (omega arith)) ∙ sym (le-leb n (length front) h)

  -- an entry within the front, with a body within it
  same_entry : (v : Version) (i at : ℕ) → entry_at (i + 1) ≤ length front → at + largest_body ≤ length front → entry_in v (front ++ rest) i at ≡ entry_in v front i at
  unfolding entry_in
  same_entry v i at e b =
      let inside : (kind : Kind) → leb (at + size_of v kind) (length (front ++ rest)) ≡ leb (at + size_of v kind) (length front) = λ kind. same_test (at + size_of v kind) (omega (arith, size_most v kind)) in
      simp (value_at_front 4 front rest (entry_at i) (omega arith), value_at_front 4 front rest (entry_at i + 4) (omega arith), value_at_front 4 front rest (entry_at i + 8) (omega arith), inside)

  -- its card
  same_card : (v : Version) (kind : Kind) (at : ℕ) → at + largest_body ≤ length front → card_at v (front ++ rest) kind at ≡ card_at v front kind at
  same_card v kind at b =
      let room : size_of v kind ≤ length (drop at front) = simp length-drop (omega (arith, size_most v kind)) in
      ap (λ (body : List ℕ). record { kind = kind; body = body }) (ap (take (size_of v kind)) (drop-append-le at front rest (omega arith)) ∙ take-append-le (size_of v kind) (drop at front) rest room)

  -- entries within the front, with bodies within it and a byte behind them
  same_cards : (v : Version) (left i at : ℕ) → entry_at (i + left) ≤ length front → at + largest_body * left < length front → cards_from v (front ++ rest) left i at ≡ cards_from v front left i at
  unfolding cards_from
  same_cards v zero i at e b = rw (ne_eqb at (length (front ++ rest)) (simp length-append (omega arith)), ne_eqb at (length front) (omega arith)) refl
  same_cards v (suc left) i at e b =
      ap₂ onward (same_entry v i at (omega arith) (omega arith)) (fun_ext λ kind.
      ap₂ (λ (others : Checked (List Card)) (c : Card). onward others (λ more. pass (c ∷ more)))
      (same_cards v left (i + 1) (at + size_of v kind) (omega arith) (omega (arith, size_most v kind)))
      (same_card v kind at (omega arith)))

  -- what stands behind the first 38,921 bytes changes nothing
  pub read_is_enough : read_of_a_deck ≤ length front → deck_in (front ++ rest) ≡ deck_in front
  unfolding deck_in
  read_is_enough h =
      let n = count_of front in
      rw (value_at_front 4 front rest 0 (omega arith), value_at_front 4 front rest 4 (omega arith), same_test header_size (omega arith))
      (ap (λ (m : Version → Checked Deck). must (leb header_size (length front)) 30 (onward (version_of (version_word front)) m)) (fun_ext λ v. behind_a_test (leb n most_cards) 32 _ _ (λ few.
      let most = leb-true n most_cards few in
      ap₂ (λ (t : Bool) (m : Checked (List Card)). must t 33 (with_version v m)) (same_test (entry_at n) (omega arith)) (same_cards v n 0 (entry_at n) (omega arith) (omega arith)))))
