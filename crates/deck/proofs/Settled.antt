-- What the check comes to, once the contents are tested: the contents' refusal, 39, or the verdicts on the cards; and the verdict list with it.
use mathlib.Core.Path.{◌≡◌, refl}
use mathlib.Core.List.{List}
use Prim.Native.Nat.{ℕ, ◌≤◌, ◌<◌}
use borrow.Author.Tests.{le-leb, lt-leb}
use lib.ListN.{length}
use Rattle.rows.specs.Rows.{refuse, must, onward}
use Rattle.rows.proofs.Laws.{row_refused}
use Rattle.version.specs.declared.Version.{Version}
use Rattle.contents.specs.Contents.{entry_at, count_of, cards_from, deck_in, counted_in, Passes}
use Rattle.contents.proofs.Cards.{come_to_cards}
use Rattle.contents.proofs.Opened.{Opened}
use Rattle.deck.specs.Check.{judged_from, judged_of, tallied, answer_of, written, list_after}

-- a check that comes to a refusal hands out the number and leaves the list
judged_refused : (deck list : List ℕ) (k : ℕ) → judged_of deck (length list) ≡ refuse k → (refuse k ≡ answer_of deck (length list)) × (list ≡ list_after deck list)
unfolding onward answer_of list_after
judged_refused deck list k h = (rw h refl, rw h refl)

pub contents_refused : (deck list : List ℕ) (k : ℕ) → counted_in deck ≡ refuse k → (refuse k ≡ answer_of deck (length list)) × (list ≡ list_after deck list)
unfolding onward judged_of
contents_refused deck list k h = judged_refused deck list k (rw (row_refused (deck_in deck) (λ d. (d.version, count_of deck)) h) refl)

module _ (deck : List ℕ) (version : Version) (count : ℕ) (o : Opened deck version count) (passes : Passes (cards_from version deck count 0 (entry_at count))) (list : List ℕ) where
  too_short : length list < count → judged_of deck (length list) ≡ refuse 39
  unfolding must onward judged_of
  too_short h = rw (o.deck_is, (come_to_cards (cards_from version deck count 0 (entry_at count)) passes).1, ← o.is, lt-leb count (length list) h) refl

  pub list_too_short : length list < count → (refuse 39 ≡ answer_of deck (length list)) × (list ≡ list_after deck list)
  list_too_short h = judged_refused deck list 39 (too_short h)

  room_enough : count ≤ length list → judged_of deck (length list) ≡ judged_from version deck count
  unfolding must onward judged_of
  room_enough h = rw (o.deck_is, (come_to_cards (cards_from version deck count 0 (entry_at count)) passes).1, ← o.is, le-leb count (length list) h) refl

  pub accepted : count ≤ length list → (tallied (judged_from version deck count) ≡ answer_of deck (length list)) × (written (judged_from version deck count) list ≡ list_after deck list)
  unfolding answer_of list_after
  accepted h = (rw (room_enough h) refl, rw (room_enough h) refl)
