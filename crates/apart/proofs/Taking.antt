-- What taking apart comes to: the deck's refusal, 41, or the cards of an accepted deck for which both lists have room, as lists for the most
-- cards and for as many of the largest fields have for any deck. What is refused leaves a list as it was, and what is taken stands at its front.
use mathlib.Core.Path.{◌≡◌, refl, sym, ap, ap₂, subst, ◌∙◌}
use mathlib.Core.Bool.{Bool, true, false, ◌&&◌, true≢false}
use mathlib.Core.List.{List, ◌++◌}
use Prim.Native.Nat.{ℕ, ◌*◌, ◌≤◌}
use native.Mathlib.Omega.{arith}
use borrow.Author.Tests.{leb-true, le-leb}
use lib.Dec.{leb}
use lib.ListN.{length, drop, length-append}
use lib.Seq.{length-take-le, take-append_seam}
use Rattle.pieces.specs.Pieces.{Put}
use Rattle.pieces.proofs.Puts.{InFront, stands}
use Rattle.rows.specs.Rows.{Checked, pass, refuse, must, onward}
use Rattle.rows.proofs.Laws.{pass_once, test_passed, rows_passed, row_refused}
use Rattle.version.specs.declared.Version.{Version}
use Rattle.card.specs.Fields.{largest_fields}
use Rattle.contents.specs.Contents.{Deck, most_cards, count_of, deck_in, counted_in}
use Rattle.contents.proofs.Opened.{found}
use Rattle.contents.proofs.Sizes.{few_cards}
use Rattle.layout.proofs.Sizes.{fields_most}
use Rattle.layout.proofs.WriteBack.{cards_sized}
use Rattle.apart.specs.Apart.{fields_taken, apart_of, sizes_of, with_taken}

-- contents that pass the tests have this version and so many cards
pub record Counted (deck : List ℕ) (v : Version) (count : ℕ) : Type 0 where
  pub is : Deck
  pub are : deck_in deck ≡ pass is
  pub in_version : is.version ≡ v
  pub as_many : length is.cards ≡ count

pub counted : (deck : List ℕ) {v : Version} {count : ℕ} → counted_in deck ≡ pass (v, count) → Counted deck v count
counted deck {v} {count} h =
    let f = found deck v count h in
    record { is = f.0; are = f.1; in_version = f.2; as_many = (few_cards deck f.0 f.1).0 ∙ f.3 }

both : (a b : Bool) → a && b ≡ true → (a ≡ true) × (b ≡ true)
both true b e = (refl, e)
both false b e = absurd (true≢false cc)

module _ (deck : List ℕ) (places room : ℕ) where
  -- ---- the sizes

  cards_refused : {k : ℕ} → deck_in deck ≡ refuse k → apart_of deck places room ≡ refuse k
  unfolding apart_of onward
  cards_refused e = rw e refl

  pub deck_refused : {k : ℕ} → deck_in deck ≡ refuse k → refuse k ≡ sizes_of (apart_of deck places room)
  unfolding sizes_of onward
  deck_refused e = rw (cards_refused e) refl

  -- what the test of both lists leads to
  abbrev tested : Bool → Deck → Checked (Version × ℕ × ℕ)
  tested t d = sizes_of (must t 41 (pass d))

  sizes_are : {v : Version} {count size : ℕ} {t : Bool} (n : Counted deck v count) → size ≡ length (fields_taken n.is) → leb count places && leb size room ≡ t → sizes_of (apart_of deck places room) ≡ tested t n.is
  unfolding apart_of sizes_of onward
  sizes_are n s t = rw (n.are, n.as_many, ← s, t) refl

  pub no_room : {v : Version} {count size : ℕ} (n : Counted deck v count) → size ≡ length (fields_taken n.is) → leb count places && leb size room ≡ false → refuse 41 ≡ sizes_of (apart_of deck places room)
  unfolding sizes_of onward must
  no_room n s t = sym (sizes_are n s t)

  pub in_room : {v : Version} {count size : ℕ} (n : Counted deck v count) → size ≡ length (fields_taken n.is) → leb count places && leb size room ≡ true → pass (v, count, size) ≡ sizes_of (apart_of deck places room)
  unfolding sizes_of onward must
  in_room {v} {count} {size} n s t = ap pass (rw (← n.in_version, ← n.as_many, ← s) refl) ∙ sym (sizes_are n s t)

  -- ---- the cards

  pub refused : {k : ℕ} → refuse k ≡ sizes_of (apart_of deck places room) → apart_of deck places room ≡ refuse k
  unfolding sizes_of
  refused e = row_refused (apart_of deck places room) (λ d. (d.version, length d.cards, length (fields_taken d))) (sym e)

  -- an accepted deck for which both lists have room
  pub record Fits (d : Deck) : Type 0 where
    pub are : deck_in deck ≡ pass d
    pub places_enough : length d.cards ≤ places
    pub room_enough : length (fields_taken d) ≤ room

  pub apart_passes : {d : Deck} → Fits d → apart_of deck places room ≡ pass d
  unfolding apart_of onward must
  apart_passes {d} f = rw (f.are, le-leb (length d.cards) places f.places_enough, le-leb (length (fields_taken d)) room f.room_enough) refl

  pub apart_means : {d : Deck} → apart_of deck places room ≡ pass d → Fits d
  unfolding apart_of
  apart_means {d} e =
      let D = rows_passed (deck_in deck) (λ d. must (leb (length d.cards) places && leb (length (fields_taken d)) room) 41 (pass d)) e in
      let many = length D.0.cards in
      let long = length (fields_taken D.0) in
      let T = test_passed (leb many places && leb long room) 41 (pass D.0) D.2 in
      let tests = both (leb many places) (leb long room) T.0 in
      subst Fits (pass_once T.1) (record { are = D.1; places_enough = leb-true many places tests.0; room_enough = leb-true long room tests.1 })

  -- version and sizes that were told are those of the deck
  pub record Taken (v : Version) (count size : ℕ) : Type 0 where
    pub is : Deck
    pub taken : apart_of deck places room ≡ pass is
    pub fits : Fits is
    pub in_version : is.version ≡ v
    pub as_many : length is.cards ≡ count
    pub as_long : length (fields_taken is) ≡ size
    pub accepted : counted_in deck ≡ pass (v, count)

  pub taken_apart : {v : Version} {count size : ℕ} → pass (v, count, size) ≡ sizes_of (apart_of deck places room) → Taken v count size
  unfolding sizes_of onward
  taken_apart {v} {count} {size} e =
      let S = rows_passed (apart_of deck places room) (λ d. pass (d.version, length d.cards, length (fields_taken d))) (sym e) in
      let fits = apart_means S.1 in
      let in_version : S.0.version ≡ v = ap (λ (told : Version × ℕ × ℕ). told.0) (pass_once S.2) in
      let as_many : length S.0.cards ≡ count = ap (λ (told : Version × ℕ × ℕ). told.1) (pass_once S.2) in
      let as_long : length (fields_taken S.0) ≡ size = ap (λ (told : Version × ℕ × ℕ). told.2) (pass_once S.2) in
      let all : count_of deck ≡ count = sym (few_cards deck S.0 fits.are).0 ∙ as_many in
      record { is = S.0; taken = S.1; fits = fits; in_version = in_version; as_many = as_many; as_long = as_long; accepted = rw fits.are (ap₂ (λ (w : Version) (n : ℕ). pass (w, n)) in_version all) }

-- lists with room for any deck take no test
pub room_for_any : (deck : List ℕ) (places room : ℕ) → most_cards ≤ places → largest_fields * most_cards ≤ room → apart_of deck places room ≡ deck_in deck
room_for_any deck places room p r = go (deck_in deck) refl
  where
    go : (m : Checked Deck) → deck_in deck ≡ m → apart_of deck places room ≡ m
    go (refuse k) e = cards_refused deck places room e
    go (pass d) e =
        let sized = cards_sized deck d e in
        apart_passes deck places room (record { are = e; places_enough = omega (arith, sized.0); room_enough = omega (arith, fields_most d.version d.cards sized.1, sized.0) })

-- ---- the lists

pub kept : (taken : Deck → List ℕ) {m : Checked Deck} {k : ℕ} (list : List ℕ) → m ≡ refuse k → list ≡ with_taken taken m list
kept taken list e = rw e refl

pub filled : (taken : Deck → List ℕ) {m : Checked Deck} {d : Deck} {list after : List ℕ} {end : ℕ} → m ≡ pass d → Put list 0 (taken d) after end → length (taken d) ≤ length list → after ≡ with_taken taken m list
filled taken e p h = rw e (stands p h)

pub in_front : (taken : Deck → List ℕ) {m : Checked Deck} {d : Deck} (list : List ℕ) {after : List ℕ} {end : ℕ} → m ≡ pass d → after ≡ with_taken taken m list → length (taken d) ≡ end → InFront (taken d) after end
in_front taken {d = d} list {after} {end} e a n =
    let rest = drop (length (taken d)) list in
    let stands : after ≡ taken d ++ rest = a ∙ rw e refl in
    let there : end ≤ length after = rw (← n, stands, length-append (taken d) rest) (omega arith) in
    record { within = there; long = sym (length-take-le end after there); is = rw (← n, stands) (take-append_seam (taken d) rest) }
