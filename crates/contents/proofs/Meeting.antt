-- A walk over the entries of an accepted deck, card by card: the cards that were met, then those that are left, are the deck's cards, and those
-- left are read from the next entry on. The loops over an accepted deck share it; each adds what it makes of the cards that were met.
use mathlib.Core.Path.{◌≡◌, refl, sym, ap, subst, ◌∙◌}
use mathlib.Core.Bool.{true≢false}
use mathlib.Core.List.{List, [], ◌∷◌, ◌++◌, append_assoc, append-nil}
use Prim.Native.Nat.{ℕ, suc, ◌+◌, ◌-◌, ◌≤◌, ◌<◌}
use native.Mathlib.Omega.{arith}
use lib.ListN.{length, take, drop, length-drop, drop_of_length-le}
use lib.Seq.{length-take-le}
use Rattle.rows.specs.Rows.{pass, refuse, onward}
use Rattle.rows.proofs.Laws.{pass_once}
use Rattle.version.specs.declared.Version.{Version}
use Rattle.card.specs.declared.Kind.{Kind}
use Rattle.card.specs.Fields.{Card, size_of}
use Rattle.contents.specs.Contents.{Deck, entry_at, kind_at, cards_from, deck_in, counted_in}
use Rattle.contents.proofs.Cards.{card_at, OneMore, one_more, as_many, come_to_cards, entry_means, entry_inside}
use Rattle.contents.proofs.Opened.{with_version, opened}

pub record Meeting (v : Version) (deck : List ℕ) (count i at : ℕ) (met : List Card) : Type 0 where
  all : List Card
  deck_is : deck_in deck ≡ pass (record { version = v; cards = all })
  rest : List Card
  parts : met ++ rest ≡ all
  left : cards_from v deck (count - i) i at ≡ pass rest

pub set_out : (v : Version) (deck : List ℕ) (count : ℕ) → counted_in deck ≡ pass (v, count) → Meeting v deck count 0 (entry_at count) []
unfolding onward
set_out v deck count h =
    let o = opened deck v count h in
    let cards = come_to_cards (cards_from v deck count 0 (entry_at count)) o.1 in
    let all_left : count - 0 ≡ count = omega arith in
    record { all = cards.0; deck_is = o.0.deck_is ∙ ap (with_version v) cards.1; rest = cards.0; parts = refl; left = rw all_left cards.1 }

module _ {v : Version} {deck : List ℕ} {count i at : ℕ} {met : List Card} (w : Meeting v deck count i at met) where
  -- while an entry is left
  next : i < count → OneMore v deck (count - (i + 1)) i at w.rest
  next h =
      let some_left : count - i ≡ suc (count - (i + 1)) = omega arith in
      one_more v deck (count - (i + 1)) i at w.rest (rw some_left at w.left)

  -- it names a kind
  kind_is : (h : i < count) → kind_at deck i ≡ pass (next h).kind
  kind_is h = (entry_means v deck i at (next h).kind (next h).entry).kind_is

  pub never_unknown : (k : ℕ) → i < count → kind_at deck i ≡ refuse k → ⊥
  never_unknown k h e =
      let named : pass (next h).kind ≡ refuse k = sym (kind_is h) ∙ e in
      true≢false cc

  same_kind : (kind : Kind) (h : i < count) → kind_at deck i ≡ pass kind → (next h).kind ≡ kind
  same_kind kind h e = pass_once (sym (kind_is h) ∙ e)

  -- its body lies inside the deck
  pub inside : (kind : Kind) → i < count → kind_at deck i ≡ pass kind → at + size_of v kind ≤ length deck
  inside kind h e = subst (λ (k : Kind). at + size_of v k ≤ length deck) (same_kind kind h e) (entry_inside v deck i at (next h).kind (next h).entry)

  pub whole_body : (kind : Kind) → i < count → kind_at deck i ≡ pass kind → length (take (size_of v kind) (drop at deck)) ≡ size_of v kind
  whole_body kind h e = length-take-le (size_of v kind) (drop at deck) (rw (length-drop at deck) (omega (arith, inside kind h e)))

  -- its card is met
  pub walk_on : (kind : Kind) → i < count → kind_at deck i ≡ pass kind → Meeting v deck count (i + 1) (at + size_of v kind) (met ++ (card_at v deck kind at ∷ []))
  walk_on kind h e = subst (λ (k : Kind). Meeting v deck count (i + 1) (at + size_of v k) (met ++ (card_at v deck k at ∷ []))) (same_kind kind h e) (
      record {
        all = w.all;
        deck_is = w.deck_is;
        rest = (next h).rest;
        parts = append_assoc met (card_at v deck (next h).kind at ∷ []) (next h).rest ∙ ap (λ (l : List Card). met ++ l) (sym (next h).cards_is) ∙ w.parts;
        left = (next h).others;
      })

  -- those that were met stand in front of the deck's cards
  pub met_first : (rest : List Card) × (deck_in deck ≡ pass (record { version = v; cards = met ++ rest }))
  met_first = (w.rest, w.deck_is ∙ ap (λ (cards : List Card). pass (record { version = v; cards = cards })) (sym w.parts))

  -- after the last entry all cards were met
  pub all_met : count ≤ i → (d : Deck) → deck_in deck ≡ pass d → ◌≡◌ {A = Deck} (record { version = v; cards = met }) d
  all_met h d e =
      let ended : w.rest ≡ [] = drop_of_length-le w.rest {i = 0} (omega (arith, as_many v deck (count - i) i at w.rest w.left)) in
      let all : met ≡ w.all = sym (append-nil met) ∙ ap (λ (l : List Card). met ++ l) (sym ended) ∙ w.parts in
      ap (λ (cards : List Card). record { version = v; cards = cards }) all ∙ pass_once (sym w.deck_is ∙ e)
