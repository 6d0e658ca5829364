-- How long a listing can be: at most 13,279 bytes. A card's line has at most 49 bytes and the digits of its place, two less where the card is
-- accepted as solved and one less where it is accepted as refused. These pay for the totals' digits, and for mean and worst but for 44 bytes.
use mathlib.Core.Path.{◌≡◌, refl, ap}
use mathlib.Core.Bool.{Bool, true, false}
use mathlib.Core.List.{List, [], ◌∷◌, ◌++◌}
use Prim.Native.Nat.{ℕ, suc, ◌+◌, ◌*◌, ◌-◌, ◌≤◌, ◌<◌}
use native.Mathlib.Omega.{arith}
use borrow.Author.Tests.{ltb-true, ltb-false}
use lib.Dec.{ltb}
use lib.Ieee.{Float}
use Rattle.std.specs.Prelude.{Option}
use lib.ListN.{length, length-append, length-map}
use Rattle.pieces.specs.Pieces.{handed_in}
use Rattle.text.specs.Text.{decimal}
use Rattle.pieces.proofs.Puts.{InFront, found}
use Rattle.text.proofs.Length.{length_under, length_self, length_number, length_count}
use Rattle.rows.specs.Rows.{Checked, pass, refuse}
use Rattle.version.specs.declared.Version.{Version}
use Rattle.tag.specs.declared.Tag.{Tag}
use Rattle.tag.specs.Tag.{tag_text}
use Rattle.card.specs.declared.Kind.{Kind}
use Rattle.card.specs.declared.Kind.TheVariants as kind
use Rattle.card.specs.Fields.{Card, Parts, parts_of, tag_of}
use Rattle.card.proofs.Sizes.{tag_text_most}
use Rattle.contents.specs.Contents.{Deck, most_cards, deck_in, read_of_a_deck}
use Rattle.contents.proofs.Sizes.{few_cards, read_is_enough}
use Rattle.ruling.specs.Said.{Said, solved, refused, rejected, number_in}
use Rattle.verdict.specs.Verdict.{verdict_on, verdict_of}
use Rattle.verdict.proofs.Rejected.{rejected_numbered, rejected_refusal}
use Rattle.verdict.proofs.Accepted.{never_solved}
use Rattle.deck.specs.declared.Totals.{Totals}
use Rattle.deck.specs.Tally.{nothing, counted, counted_all, Residuals, absent, known, residuals_of, totals_of}
use Rattle.deck.specs.Check.{verdicts_of}
use Rattle.deck.proofs.Tallied.{totals_add_up, first_and_others, known_is}
use Rattle.item.specs.Item.{placed_line}
use Rattle.listed.specs.Listed.{totals_line, residual_lines}
use Rattle.listing.specs.Listing.{card_line, card_lines, accepted_lines, lines_for, listing_of, longest_listing}

-- ---- the digits of the places

-- a place below 1000 has one digit, from 10 on one more, from 100 on one more: so many have all places before p
unfoldable digits_before : ℕ → ℕ
digits_before p = (p - 1) + (p - 10) + (p - 100)

-- a place's own digits lead on to the next
digits_of_place : (p : ℕ) → 0 < p → p < 1000 → length (decimal 10 p) + digits_before p ≤ digits_before (p + 1)
unfolding digits_before
digits_of_place p h l = go (ltb p 10) (ltb p 100) refl refl
  where
    go : (a b : Bool) → ltb p 10 ≡ a → ltb p 100 ≡ b → length (decimal 10 p) + digits_before p ≤ digits_before (p + 1)
    go true b e f = let below = ltb-true p 10 e in omega (arith, length_under 10 p 1 (omega arith) (omega arith))
    go false true e f = let from = ltb-false p 10 e in let below = ltb-true p 100 f in omega (arith, length_under 10 p 2 (omega arith) (omega arith))
    go false false e f = let from = ltb-false p 100 f in omega (arith, length_under 10 p 3 (omega arith) (omega arith))

-- ---- the cards' lines

-- an accepted card's number has one digit, a rejected one's three at most, and a refused card's two
accepted_digit : length (decimal 10 0) ≤ 1
accepted_digit = length_under 10 0 1 (omega arith) (omega arith)

rejected_digits : (k : Kind) (card : Parts) (j : ℕ) → verdict_on k card ≡ rejected j → length (decimal 10 j) ≤ 3
rejected_digits k card j e = length_under 10 j 3 (omega arith) (omega (arith, (rejected_numbered k card j e).1))

refusal_digits : (card : Parts) (j : ℕ) → verdict_on kind.Refused card ≡ rejected j → length (decimal 10 j) ≤ 2
refusal_digits card j e = length_under 10 j 2 (omega arith) (rejected_refusal card j e).1

-- at most 49 bytes, 32 of them for object and epoch, and the digits of the place; two less of a card accepted as solved, one less of one accepted as
-- refused
line_most : (place : ℕ) (k : Kind) (tag : Option Tag) → length (tag_text tag) ≤ 32 → (card : Parts) (v : Said) → verdict_on k card ≡ v → length (placed_line place k tag (number_in v)) + (2 * (counted nothing v).solved + (counted nothing v).refused) ≤ 49 + length (decimal 10 place)
line_most place kind.Solved tag t card (solved x) e = simp length-append (omega (arith, accepted_digit))
line_most place kind.Solved tag t card refused e = simp length-append (omega (arith, accepted_digit))
line_most place kind.Solved tag t card (rejected j) e = simp length-append (omega (arith, rejected_digits kind.Solved card j e))
line_most place kind.Refused tag t card (solved x) e = absurd (never_solved card x e)
line_most place kind.Refused tag t card refused e = simp length-append (omega (arith, accepted_digit))
line_most place kind.Refused tag t card (rejected j) e = simp length-append (omega (arith, refusal_digits card j e))
line_most place kind.Transfer tag t card (solved x) e = simp length-append (omega (arith, accepted_digit))
line_most place kind.Transfer tag t card refused e = simp length-append (omega (arith, accepted_digit))
line_most place kind.Transfer tag t card (rejected j) e = simp length-append (omega (arith, rejected_digits kind.Transfer card j e))

-- the lines of the cards from a place on
cards_most : (version : Version) (place : ℕ) (cards : List Card) → 0 < place → place + length cards ≤ 1000 → let n = counted_all nothing (verdicts_of version cards) in length (card_lines version place cards) + (2 * n.solved + n.refused) + digits_before place ≤ 49 * length cards + digits_before (place + length cards)
unfolding card_lines counted_all
cards_most version place [] h l = let end : place + 0 ≡ place = omega arith in rw end (omega arith)
cards_most version place (c ∷ cards) h l =
    let verdict = verdict_of version c in
    let on : place + suc (length cards) ≡ place + 1 + length cards = omega arith in
    let all = length-append (card_line version place c) (card_lines version (place + 1) cards) in
    let line = line_most place c.kind (tag_of version c.kind c.body) (tag_text_most version c.kind c.body) (parts_of version c.kind c.body) verdict refl in
    let digits = digits_of_place place h (omega arith) in
    let others = cards_most version (place + 1) cards (omega arith) (omega arith) in
    let totals = first_and_others verdict (verdicts_of version cards) in
    rw on (omega arith)

-- ---- an accepted deck

-- so many digits have the places of 256 cards
few_digits : (p : ℕ) → p ≤ 257 → digits_before p ≤ 660
unfolding digits_before
few_digits p h = omega arith

-- mean and worst, which are known only where a card is solved, with the digits of the number of solved cards
residuals_most : (n : ℕ) (r : Residuals) → ((mean worst : Float) → r ≡ known mean worst → n ≡ 0 → ⊥) → length (residual_lines r) + length (decimal 10 n) ≤ 44 + 2 * n
residuals_most n absent some = omega (arith, length_self 10 n)
residuals_most n (known mean worst) some = simp length-append (omega (arith, some mean worst refl, length_number mean, length_number worst, length_self 10 n))

-- the totals' line, by the digits of the three
totals_line_lem : (n : Totals) → length (totals_line n) ≡ 27 + length (decimal 10 n.solved) + length (decimal 10 n.refused) + length (decimal 10 n.rejected)
totals_line_lem n = simp length-append (omega arith)

-- all lines of at most 256 cards
accepted_most : (d : Deck) → length d.cards ≤ most_cards → length (accepted_lines d) ≤ longest_listing
accepted_most d few =
    let cards = d.cards in
    let verdicts = verdicts_of d.version cards in
    let n = counted_all nothing verdicts in
    let all = totals_add_up verdicts in
    let as_many = length-map cards (verdict_of d.version) in
    let lines = cards_most d.version 1 cards (omega arith) (omega arith) in
    let digits = few_digits (1 + length cards) (omega arith) in
    let totals = totals_line_lem (totals_of n) in
    let refused-digits = length_self 10 n.refused in
    let rejected_digits = length_under 10 n.rejected 3 (omega arith) (omega arith) in
    let residuals = residuals_most n.solved (residuals_of n) (λ mean worst e. (known_is n mean worst e).0) in
    simp length-append (omega arith)

-- ---- any deck

-- no listing has more than 13,279 bytes
pub longest : (deck : List ℕ) → length (listing_of deck) ≤ longest_listing
unfolding listing_of
longest deck = go (deck_in deck) refl
  where
    go : (m : Checked Deck) → deck_in deck ≡ m → length (lines_for m) ≤ longest_listing
    go (pass d) e = accepted_most d (omega (arith, few_cards deck d e))
    go (refuse k) e = simp length-append (omega (arith, length_count k))

-- so a page of that many bytes has the listing in front, once it is handed over
pub in_page : (deck page : List ℕ) {after : List ℕ} {end : ℕ} → length page ≡ longest_listing → end ≡ length (listing_of deck) → after ≡ handed_in (listing_of deck) page → InFront (listing_of deck) after end
in_page deck page room e is = found (listing_of deck) page (omega (arith, longest deck)) e is

-- and what is read of a deck is enough for it
pub listing_of_what_is_read : (front rest : List ℕ) → read_of_a_deck ≤ length front → listing_of (front ++ rest) ≡ listing_of front
unfolding listing_of
listing_of_what_is_read front rest h = ap lines_for (read_is_enough front rest h)
