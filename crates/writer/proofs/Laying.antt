-- The loop that writes the bodies, turn by turn: the bodies of the cards that are left, written behind what stands, are the bodies of all cards.
use mathlib.Core.Path.{◌≡◌, sym, ap, ◌∙◌}
use mathlib.Core.Bool.{true≢false}
use mathlib.Core.List.{List, [], ◌∷◌, ◌++◌}
use Prim.Native.Nat.{ℕ, ◌+◌, ◌≤◌, ◌<◌}
use native.Mathlib.Numerals.{add-one}
use native.Mathlib.Omega.{arith}
use lib.ListN.{length, take, drop, get_or, length-drop, drop_of_length-le}
use lib.Seq.{drop-cons, drop-drop}
use Rattle.pieces.specs.declared.Page.{Page}
use Rattle.pieces.specs.Page.{written}
use Rattle.pieces.proofs.InPieces.{InPieces, nothing_yet, one_on, all_there}
use Rattle.rows.specs.Rows.{pass, refuse}
use Rattle.rows.proofs.Laws.{pass_once}
use Rattle.version.specs.declared.Version.{Version}
use Rattle.card.specs.declared.Kind.{Kind}
use Rattle.card.specs.Fields.{Card, kind_of, packed_size}
use Rattle.card.specs.Made.{body_from}
use Rattle.contents.specs.Contents.{Passes}
use Rattle.contents.proofs.Cards.{come_to_cards}
use Rattle.layout.specs.Layout.{bodies_of}
use Rattle.layout.specs.Packed.{packed_cards}
use Rattle.layout.proofs.Packed.{OneMore, one_more, as_many}

pub record Laying (v : Version) (kinds fields : List ℕ) (start page : Page) (at i : ℕ) : Type 0 where
  all : List Card
  cards_are : packed_cards v kinds fields ≡ pass all
  rest : List Card
  left : packed_cards v (drop i kinds) (drop at fields) ≡ pass rest
  pub pieces : InPieces start (bodies_of all) page (bodies_of rest)

pub begin : (v : Version) (kinds fields : List ℕ) (page : Page) → Passes (packed_cards v kinds fields) → page.at ≤ length page.bytes.now → Laying v kinds fields page page 0 0
begin v kinds fields page p h =
    let cards = come_to_cards (packed_cards v kinds fields) p in
    record { all = cards.0; cards_are = cards.1; rest = cards.0; left = cards.1; pieces = nothing_yet (bodies_of cards.0) h }

module _ {v : Version} {kinds fields : List ℕ} {start page : Page} {at i : ℕ} (s : Laying v kinds fields start page at i) where
  -- while a kind is left, so is a card
  next : i < length kinds → OneMore v (get_or kinds i 0) (drop (i + 1) kinds) (drop at fields) s.rest
  next h =
      let kind-first : drop i kinds ≡ get_or kinds i 0 ∷ drop (i + 1) kinds = drop-cons kinds i 0 h ∙ ap (λ (n : ℕ). get_or kinds i 0 ∷ drop n kinds) (sym (add-one i)) in
      one_more v (get_or kinds i 0) (drop (i + 1) kinds) (drop at fields) s.rest (ap (λ (l : List ℕ). packed_cards v l (drop at fields)) (sym kind-first) ∙ s.left)

  pub never_unknown : (k : ℕ) → i < length kinds → kind_of (get_or kinds i 0) ≡ refuse k → ⊥
  never_unknown k h r =
      let named : pass (next h).kind ≡ refuse k = sym (next h).known ∙ r in
      true≢false cc

  same_kind : (kind : Kind) (h : i < length kinds) → kind_of (get_or kinds i 0) ≡ pass kind → (next h).kind ≡ kind
  same_kind kind h r = pass_once (sym (next h).known ∙ r)

  -- its fields are inside
  pub room : (kind : Kind) → i < length kinds → kind_of (get_or kinds i 0) ≡ pass kind → at + packed_size v kind ≤ length fields
  room kind h r = omega (arith, rw (same_kind kind h r) at (next h).room, length-drop at fields)

  bodies_are : (kind : Kind) (h : i < length kinds) (r : kind_of (get_or kinds i 0) ≡ pass kind) → body_from kind (take (packed_size v kind) (drop at fields)) ++ bodies_of (next h).rest ≡ bodies_of s.rest
  unfolding bodies_of
  bodies_are kind h r =
      ap (λ (k : Kind). body_from k (take (packed_size v k) (drop at fields)) ++ bodies_of (next h).rest) (sym (same_kind kind h r)) ∙ sym (ap bodies_of (next h).cards_is)

  -- a body is written
  pub turn : (kind : Kind) {after : Page} → i < length kinds → kind_of (get_or kinds i 0) ≡ pass kind → after ≡ written page (body_from kind (take (packed_size v kind) (drop at fields)))
      → Laying v kinds fields start after (at + packed_size v kind) (i + 1)
  turn kind h r p =
      let n = next h in
      let others : packed_cards v (drop (i + 1) kinds) (drop (packed_size v kind) (drop at fields)) ≡ pass n.rest = rw (same_kind kind h r) at n.others in
      record {
        all = s.all;
        cards_are = s.cards_are;
        rest = n.rest;
        left = ap (packed_cards v (drop (i + 1) kinds)) (sym (drop-drop (packed_size v kind) at fields)) ∙ others;
        pieces = one_on (body_from kind (take (packed_size v kind) (drop at fields))) s.pieces (bodies_are kind h r) p;
      }

  -- after the last one
  pub laid : length kinds ≤ i → (cards : List Card) → packed_cards v kinds fields ≡ pass cards → page ≡ written start (bodies_of cards)
  unfolding bodies_of
  laid h cards e =
      let ended : s.rest ≡ [] = drop_of_length-le s.rest {i = 0} (omega (arith, as_many v (drop i kinds) (drop at fields) s.rest s.left ∙ ap length (drop_of_length-le kinds h))) in
      let same : s.all ≡ cards = pass_once (sym s.cards_are ∙ e) in
      all_there s.pieces (ap bodies_of ended) ∙ ap (λ (l : List Card). written start (bodies_of l)) same
