-- The loop that writes a line for each card, turn by turn: the lines of the cards that were met stand one behind the other.
use mathlib.Core.Path.{◌≡◌, refl, sym, ap, ap₂, ◌∙◌}
use mathlib.Core.List.{List, [], ◌∷◌, ◌++◌, map, append_assoc, append-nil, map-append}
use Prim.Native.Nat.{ℕ, suc, ◌+◌, ◌≤◌, ◌<◌}
use native.Mathlib.Omega.{arith}
use lib.ListN.{length, get_or, length-append, length-map}
use lib.Seq.{get_or_at}
use Rattle.pieces.specs.declared.Page.{Page}
use Rattle.pieces.specs.Page.{written}
use Rattle.pieces.proofs.Pages.{two, nothing}
use Rattle.rows.specs.Rows.{pass, onward}
use Rattle.rows.proofs.Laws.{pass_once}
use Rattle.version.specs.declared.Version.{Version}
use Rattle.version.specs.Version.{version_of}
use Rattle.card.specs.declared.Kind.{Kind}
use Rattle.card.specs.Fields.{Card, size_of, tag_of}
use Rattle.contents.specs.Contents.{Deck, entry_at, version_word, count_of, kind_at, deck_in, counted_in}
use Rattle.contents.proofs.Cards.{card_at}
use Rattle.contents.proofs.Opened.{opened_to}
use Rattle.contents.proofs.Sizes.{few_cards}
use Rattle.contents.proofs.Meeting.{Meeting, set_out, walk_on, met_first, all_met}
use Rattle.ruling.specs.Said.{Said, number_in}
use Rattle.verdict.specs.Verdict.{verdict_of}
use Rattle.deck.specs.Check.{numbers_of}
use Rattle.item.specs.Item.{placed_line}
use Rattle.listing.specs.Listing.{verdict_number, card_line, card_lines}
use Rattle.listing.specs.Judged.{Judged}

-- the line of one more card stands behind those of the others
lines_behind : (v : Version) (place : ℕ) (cards : List Card) (c : Card) → card_lines v place (cards ++ (c ∷ [])) ≡ card_lines v place cards ++ card_line v (place + length cards) c
unfolding card_lines
lines_behind v place [] c = append-nil (card_line v place c) ∙ ap (λ (p : ℕ). card_line v p c) (omega arith)
lines_behind v place (d ∷ cards) c =
    let on : place + 1 + length cards ≡ place + suc (length cards) = omega arith in
    ap (λ (l : List ℕ). card_line v place d ++ l) (lines_behind v (place + 1) cards c ∙ ap (λ (p : ℕ). card_lines v (place + 1) cards ++ card_line v p c) on)
    ∙ sym (append_assoc (card_line v place d) (card_lines v (place + 1) cards) (card_line v (place + suc (length cards)) c))

-- the numbers of verdicts: those of two parts, and how many there are
numbers_append : (v : Version) (first others : List Card) → numbers_of v (first ++ others) ≡ numbers_of v first ++ numbers_of v others
numbers_append v first others = ap (λ (l : List Said). map number_in l) (map-append (verdict_of v) first others) ∙ map-append number_in (map (verdict_of v) first) (map (verdict_of v) others)

numbers_many : (v : Version) (cards : List Card) → length (numbers_of v cards) ≡ length cards
numbers_many v cards = length-map (map (verdict_of v) cards) number_in ∙ length-map cards (verdict_of v)

-- ---- the deck that was judged has this version and so many cards

pub judged_in : (v : Version) (deck list : List ℕ) (count : ℕ) → Judged deck list count → version_of (version_word deck) ≡ pass v → counted_in deck ≡ pass (v, count)
unfolding onward
judged_in v deck list count j e =
    let o = (opened_to deck j.is j.deck_is).0 in
    let same : j.is.version ≡ v = pass_once (sym o.version ∙ e) in
    let many : count_of deck ≡ count = sym (few_cards deck j.is j.deck_is).0 ∙ j.as_many in
    counted j.is j.deck_is same many
  where
    counted : (d : Deck) → deck_in deck ≡ pass d → d.version ≡ v → count_of deck ≡ count → counted_in deck ≡ pass (v, count)
    counted d is same many = rw is (ap₂ (λ (w : Version) (n : ℕ). pass (w, n)) same many)

-- and the list a place for each
pub place : (deck list : List ℕ) (count i : ℕ) → Judged deck list count → i < count → i < length list
place deck list count i j h =
    let numbers = numbers_of j.is.version j.is.cards in
    omega (arith, ap length j.numbers, length-append numbers j.behind, numbers_many j.is.version j.is.cards, j.as_many)

pub record Showing (v : Version) (deck : List ℕ) (count : ℕ) (before page : Page) (i at : ℕ) : Type 0 where
  pub met : List Card
  pub walk : Meeting v deck count i at met
  pub as_many : length met ≡ i
  pub put : page ≡ written before (card_lines v 1 met)

pub start : (v : Version) (deck : List ℕ) (count : ℕ) (page : Page) → counted_in deck ≡ pass (v, count) → page.at ≤ length page.bytes.now → Showing v deck count page page 0 (entry_at count)
unfolding card_lines
start v deck count page h inside = record { met = []; walk = set_out v deck count h; as_many = refl; put = sym (nothing page inside) }

module _ {v : Version} {deck : List ℕ} {count : ℕ} {before page : Page} {i at : ℕ} (s : Showing v deck count before page i at) where
  -- the list has the verdict's number of the next card at its place
  number_is : (list : List ℕ) → Judged deck list count → (kind : Kind) → i < count → kind_at deck i ≡ pass kind → get_or list i 0 ≡ verdict_number v (card_at v deck kind at)
  number_is list j kind h e =
      let card = card_at v deck kind at in
      let m = met_first (walk_on s.walk kind h e) in
      let is : ◌≡◌ {A = Deck} j.is (record { version = v; cards = (s.met ++ (card ∷ [])) ++ m.0 }) = pass_once (sym j.deck_is ∙ m.1) in
      let numbers = numbers_of v s.met in
      let parts : numbers_of v ((s.met ++ (card ∷ [])) ++ m.0) ≡ numbers ++ (verdict_number v card ∷ numbers_of v m.0) = ap (numbers_of v) (append_assoc s.met (card ∷ []) m.0) ∙ numbers_append v s.met (card ∷ m.0) in
      let list_is : list ≡ numbers ++ (verdict_number v card ∷ (numbers_of v m.0 ++ j.behind)) =
      j.numbers ∙ ap (λ (d : Deck). numbers_of d.version d.cards ++ j.behind) is ∙ ap (λ (l : List ℕ). l ++ j.behind) parts ∙ append_assoc numbers (verdict_number v card ∷ numbers_of v m.0) j.behind in
      ap (λ (l : List ℕ). get_or l i 0) list_is ∙ get_or_at numbers (verdict_number v card) (numbers_of v m.0 ++ j.behind) 0 i (numbers_many v s.met ∙ s.as_many)

  -- a card's line is written
  pub turn : (list : List ℕ) → Judged deck list count → (kind : Kind) {after : Page} → i < count → kind_at deck i ≡ pass kind
      → after ≡ written page (placed_line (i + 1) kind (tag_of v kind (card_at v deck kind at).body) (get_or list i 0)) → Showing v deck count before after (i + 1) (at + size_of v kind)
  turn list j kind h e p =
      let card = card_at v deck kind at in
      let place : i + 1 ≡ 1 + length s.met = omega (arith, s.as_many) in
      let line-is = ap₂ (λ (k n : ℕ). placed_line k kind (tag_of v kind card.body) n) place (number_is list j kind h e) in
      record {
        met = s.met ++ (card ∷ []);
        walk = walk_on s.walk kind h e;
        as_many = length-append s.met (card ∷ []) ∙ ap (λ (k : ℕ). k + 1) s.as_many;
        put = rw (p, s.put, two) (ap (λ (l : List ℕ). written before (card_lines v 1 s.met ++ l)) line-is ∙ ap (written before) (sym (lines_behind v 1 s.met card)));
      }

  -- after the last card
  pub shown : count ≤ i → (d : Deck) → deck_in deck ≡ pass d → page ≡ written before (card_lines v 1 d.cards)
  shown h d e = s.put ∙ ap (λ (l : Deck). written before (card_lines v 1 l.cards)) (all_met s.walk h d e)
