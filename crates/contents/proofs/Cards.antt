-- Laws of the contents: what one more entry comes to, refused or a card in front of the rest; that each body lies inside the deck; that as many
-- cards come out as there are entries; that the entries have their kinds; and that each body has its kind's size.
use mathlib.Core.Path.{◌≡◌, refl, sym, ap, subst, ◌∙◌}
use mathlib.Core.List.{List, [], ◌∷◌}
use Prim.Native.Nat.{ℕ, zero, suc, ◌+◌, ◌≤◌}
use native.Mathlib.Omega.{arith}
use borrow.Author.Tests.{eqb-true, leb-true}
use lib.Dec.{eqb}
use lib.ListN.{length, take, drop, length-drop}
use lib.Seq.{length-take-le}
use Rattle.rows.specs.Rows.{Checked, pass, refuse, onward}
use Rattle.rows.proofs.Laws.{pass_once, test_passed, rows_passed}
use Rattle.version.specs.declared.Version.{Version}
use Rattle.card.specs.declared.Kind.{Kind}
use Rattle.card.specs.Fields.{Card, size_of}
use Rattle.contents.specs.Contents.{kind_at, offset_at, length_at, entry_in, cards_from, Passes}

-- the card of an entry that passed
abbrev pub card_at : Version → List ℕ → Kind → (at : ℕ) → Card
card_at v deck kind at = record { kind = kind; body = take (size_of v kind) (drop at deck) }

-- an entry that passed names its kind and its body's length and offset, and has its body inside the deck
pub record EntryMeans (v : Version) (deck : List ℕ) (i at : ℕ) (kind : Kind) : Type 0 where
  pub kind_is : kind_at deck i ≡ pass kind
  pub length_is : length_at deck i ≡ size_of v kind
  pub offset_is : offset_at deck i ≡ at
  pub inside : at + size_of v kind ≤ length deck

pub entry_means : (v : Version) (deck : List ℕ) (i at : ℕ) (kind : Kind) → entry_in v deck i at ≡ pass kind → EntryMeans v deck i at kind
unfolding entry_in
entry_means v deck i at kind h =
    let K = rows_passed (kind_at deck i) _ h in
    let length-row = test_passed _ 35 _ K.2 in
    let offset-row = test_passed _ 36 _ length-row.1 in
    let End-row = test_passed _ 37 _ offset-row.1 in
    subst (EntryMeans v deck i at) (pass_once End-row.1) (record {
      kind_is = K.1;
      length_is = eqb-true (length_at deck i) (size_of v K.0) length-row.0;
      offset_is = eqb-true (offset_at deck i) at offset-row.0;
      inside = leb-true (at + size_of v K.0) (length deck) End-row.0;
    })

pub entry_inside : (v : Version) (deck : List ℕ) (i at : ℕ) (kind : Kind) → entry_in v deck i at ≡ pass kind → at + size_of v kind ≤ length deck
entry_inside v deck i at kind h = (entry_means v deck i at kind h).inside

module _ (v : Version) (deck : List ℕ) (left i at : ℕ) where
  -- a card in front of the rest
  abbrev pub and_rest : Kind → Checked (List Card)
  and_rest kind = onward (cards_from v deck left (i + 1) (at + size_of v kind)) (λ rest. pass (card_at v deck kind at ∷ rest))

  pub cards_are : cards_from v deck (suc left) i at ≡ onward (entry_in v deck i at) and_rest
  unfolding cards_from
  cards_are = refl

  -- one more entry that passes, in a deck that does
  pub record OneMore (cards : List Card) : Type 0 where
    pub kind : Kind
    pub rest : List Card
    pub entry : entry_in v deck i at ≡ pass kind
    pub others : cards_from v deck left (i + 1) (at + size_of v kind) ≡ pass rest
    pub cards_is : cards ≡ card_at v deck kind at ∷ rest

  pub one_more : (cards : List Card) → cards_from v deck (suc left) i at ≡ pass cards → OneMore cards
  one_more cards h =
      let E = rows_passed (entry_in v deck i at) and_rest (sym cards_are ∙ h) in
      let R = rows_passed (cards_from v deck left (i + 1) (at + size_of v E.0)) (λ rest. pass (card_at v deck E.0 at ∷ rest)) E.2 in
      record { kind = E.0; rest = R.0; entry = E.1; others = R.1; cards_is = sym (pass_once R.2) }

-- contents that pass come to cards
pub come_to_cards : (m : Checked (List Card)) → Passes m → (cards : List Card) × (m ≡ pass cards)
come_to_cards (pass cards) p = (cards, refl)
come_to_cards (refuse k) p = absurd p

-- after the last entry there are no cards
pub no_more : (v : Version) (deck : List ℕ) (i at : ℕ) (cards : List Card) → cards_from v deck zero i at ≡ pass cards → cards ≡ []
unfolding cards_from
no_more v deck i at cards h = sym (pass_once (test_passed (eqb at (length deck)) 38 (pass []) h).1)

pub as_many : (v : Version) (deck : List ℕ) (left i at : ℕ) (cards : List Card) → cards_from v deck left i at ≡ pass cards → length cards ≡ left
as_many v deck zero i at cards h = ap length (no_more v deck i at cards h)
as_many v deck (suc left) i at cards h =
    let m = one_more v deck left i at cards h in
    ap length m.cards_is ∙ ap suc (as_many v deck left (i + 1) (at + size_of v m.kind) m.rest m.others)

-- the entries from i on name the kinds of these cards
abbrev pub KindsFrom : List ℕ → (i : ℕ) → List Card → Type 0
KindsFrom deck i [] = Unit
KindsFrom deck i (c ∷ cards) = (kind_at deck i ≡ pass c.kind) × KindsFrom deck (i + 1) cards

pub kinds_named : (v : Version) (deck : List ℕ) (left i at : ℕ) (cards : List Card) → cards_from v deck left i at ≡ pass cards → KindsFrom deck i cards
kinds_named v deck zero i at cards h = subst (KindsFrom deck i) (sym (no_more v deck i at cards h)) tt
kinds_named v deck (suc left) i at cards h =
    let m = one_more v deck left i at cards h in
    subst (KindsFrom deck i) (sym m.cards_is) ((entry_means v deck i at m.kind m.entry).kind_is, kinds_named v deck left (i + 1) (at + size_of v m.kind) m.rest m.others)

-- each body has the size of its kind
abbrev pub AllSized : Version → List Card → Type 0
AllSized v [] = Unit
AllSized v (c ∷ cards) = (length c.body ≡ size_of v c.kind) × AllSized v cards

pub sized_from : (v : Version) (deck : List ℕ) (left i at : ℕ) (cards : List Card) → cards_from v deck left i at ≡ pass cards → AllSized v cards
sized_from v deck zero i at cards h = subst (AllSized v) (sym (no_more v deck i at cards h)) tt
sized_from v deck (suc left) i at cards h =
    let m = one_more v deck left i at cards h in
    let room : size_of v m.kind ≤ length (drop at deck) = simp length-drop (omega (arith, entry_inside v deck i at m.kind m.entry)) in
    subst (AllSized v) (sym m.cards_is) (length-take-le (size_of v m.kind) (drop at deck) room, sized_from v deck left (i + 1) (at + size_of v m.kind) m.rest m.others)
