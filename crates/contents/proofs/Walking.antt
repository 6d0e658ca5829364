-- The loop that tests a deck's entries, turn by turn: what is left to be tested comes to what the whole comes to, a refusal or the count.
use mathlib.Core.Path.{◌≡◌, refl, sym, ap, ◌∙◌}
use mathlib.Core.List.{List, ◌∷◌}
use Prim.Native.Nat.{ℕ, suc, ◌+◌, ◌-◌, ◌≤◌, ◌<◌}
use native.Mathlib.Omega.{arith}
use borrow.Author.Tests.{eq-eqb, ne_eqb}
use lib.ListN.{length}
use Rattle.rows.specs.Rows.{Checked, pass, refuse, must, onward}
use Rattle.version.specs.declared.Version.{Version}
use Rattle.card.specs.declared.Kind.{Kind}
use Rattle.card.specs.Fields.{Card, size_of}
use Rattle.contents.specs.Contents.{entry_at, entry_in, cards_from, counting}
use Rattle.contents.proofs.Cards.{card_at, and_rest, cards_are}

pub record Walking (v : Version) (deck : List ℕ) (count i at : ℕ) : Type 0 where
  pub same : counting v count (cards_from v deck (count - i) i at) ≡ counting v count (cards_from v deck count 0 (entry_at count))

pub set_out : (v : Version) (deck : List ℕ) (count : ℕ) → Walking v deck count 0 (entry_at count)
set_out v deck count = let none_yet : count - 0 ≡ count = omega arith in record { same = rw none_yet refl }

module _ {v : Version} {deck : List ℕ} {count i at : ℕ} (w : Walking v deck count i at) where
  -- while an entry is left, the whole comes to that entry and the rest
  by_entry : i < count → counting v count (onward (entry_in v deck i at) (and_rest v deck (count - (i + 1)) i at)) ≡ counting v count (cards_from v deck count 0 (entry_at count))
  by_entry h =
      let one_less : suc (count - (i + 1)) ≡ count - i = omega arith in
      ap (counting v count) (sym (cards_are v deck (count - (i + 1)) i at) ∙ ap (λ (left : ℕ). cards_from v deck left i at) one_less) ∙ w.same

  pub entry_refused : (k : ℕ) → i < count → entry_in v deck i at ≡ refuse k → refuse k ≡ counting v count (cards_from v deck count 0 (entry_at count))
  unfolding onward
  entry_refused k h e = sym (ap (λ m. counting v count (onward m (and_rest v deck (count - (i + 1)) i at))) e) ∙ by_entry h

  -- a card in front changes no refusal and no count
  behind : (m : Checked (List Card)) (c : Card) → counting v count m ≡ counting v count (onward m (λ rest. pass (c ∷ rest)))
  unfolding onward
  behind (pass cards) c = refl
  behind (refuse k) c = refl

  pub walk_on : (kind : Kind) → i < count → entry_in v deck i at ≡ pass kind → Walking v deck count (i + 1) (at + size_of v kind)
  unfolding onward
  walk_on kind h e = record {
    same = behind (cards_from v deck (count - (i + 1)) (i + 1) (at + size_of v kind)) (card_at v deck kind at) ∙ sym (ap (λ m. counting v count (onward m (and_rest v deck (count - (i + 1)) i at))) e) ∙ by_entry h;
  }

  -- after the last entry
  at_the_end : count ≤ i → counting v count (cards_from v deck 0 i at) ≡ counting v count (cards_from v deck count 0 (entry_at count))
  at_the_end h = let none_left : count - i ≡ 0 = omega arith in rw none_left at w.same

  pub left_over : count ≤ i → (at ≡ length deck → ⊥) → refuse 38 ≡ counting v count (cards_from v deck count 0 (entry_at count))
  unfolding must onward cards_from
  left_over h e = rw (ne_eqb at (length deck) e) at (at_the_end h)

  pub all_read : count ≤ i → at ≡ length deck → pass (v, count) ≡ counting v count (cards_from v deck count 0 (entry_at count))
  unfolding must onward cards_from
  all_read h e = rw (eq-eqb at (length deck) e) at (at_the_end h)
