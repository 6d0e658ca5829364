-- Laws of cards as kinds and fields without spares: what one more card comes to, refused or a card in front of the rest; that as many cards come
-- out as there are kinds, each with its kind's size; that kinds, fields and body of one more card stand behind those of the others; and that kinds
-- and fields of cards give these cards, their spares cleared, and the other way.
use mathlib.Core.Path.{◌≡◌, refl, sym, ap, ap₂, subst, ◌∙◌}
use mathlib.Core.List.{List, [], ◌∷◌, ◌++◌, map, append-nil, append_assoc, map-append}
use Prim.Native.Nat.{ℕ, suc, ◌≤◌, ◌<◌}
use native.Mathlib.Omega.{arith}
use borrow.Author.Tests.{eqb-true, leb-true, le-leb, lt-leb, ne_eqb}
use lib.Dec.{eqb, leb}
use lib.ListN.{length, take, drop, length-append, length-map, drop_of_length-le, take-append-drop}
use lib.Seq.{length-take-le, take_at, drop_at}
use Rattle.rows.specs.Rows.{Checked, pass, refuse, must, onward}
use Rattle.rows.proofs.Laws.{pass_once, test_passed, rows_passed}
use Rattle.version.specs.declared.Version.{Version}
use Rattle.card.specs.declared.Kind.{Kind}
use Rattle.card.specs.Fields.{Card, kind_of, kind_number, packed_size}
use Rattle.card.specs.Made.{fields_in}
use Rattle.card.proofs.Packed.{length_body, length_fields, fields_back}
use Rattle.contents.proofs.Cards.{AllSized}
use Rattle.layout.specs.Layout.{bodies_of}
use Rattle.layout.specs.Packed.{kinds_of, fields_of, packed_card, packed_cards, cleared}
use Rattle.layout.proofs.KindNumbers.{kind_of_number, number_of_kind}

-- as many kinds as cards
pub length_kinds : (cards : List Card) → length (kinds_of cards) ≡ length cards
length_kinds cards = length-map cards (λ (c : Card). kind_number c.kind)

-- kinds, fields and body of one more card stand behind those of the others
pub kinds_behind : (cards : List Card) (c : Card) → kinds_of (cards ++ (c ∷ [])) ≡ kinds_of cards ++ (kind_number c.kind ∷ [])
kinds_behind cards c = map-append (λ (c : Card). kind_number c.kind) cards (c ∷ [])

pub fields_behind : (v : Version) (cards : List Card) (c : Card) → fields_of v (cards ++ (c ∷ [])) ≡ fields_of v cards ++ fields_in v c.kind c.body
unfolding fields_of
fields_behind v [] c = append-nil (fields_in v c.kind c.body)
fields_behind v (d ∷ cards) c =
    let here = fields_in v d.kind d.body in
    ap (λ (l : List ℕ). here ++ l) (fields_behind v cards c) ∙ sym (append_assoc here (fields_of v cards) (fields_in v c.kind c.body))

pub bodies_behind : (cards : List Card) (c : Card) → bodies_of (cards ++ (c ∷ [])) ≡ bodies_of cards ++ c.body
unfolding bodies_of
bodies_behind [] c = append-nil c.body
bodies_behind (d ∷ cards) c = ap (λ (l : List ℕ). d.body ++ l) (bodies_behind cards c) ∙ sym (append_assoc d.body (bodies_of cards) c.body)

module _ (v : Version) (n : ℕ) (kinds fields : List ℕ) where
  -- a card in front of the rest
  abbrev and_rest : Kind → Checked (List Card)
  and_rest kind = onward (packed_cards v kinds (drop (packed_size v kind) fields)) (λ rest. pass (packed_card kind (take (packed_size v kind) fields) ∷ rest))

  pub unknown : (k : ℕ) → kind_of n ≡ refuse k → packed_cards v (n ∷ kinds) fields ≡ refuse k
  unfolding packed_cards onward
  unknown k e = rw e refl

  pub cut_off : (kind : Kind) → kind_of n ≡ pass kind → length fields < packed_size v kind → packed_cards v (n ∷ kinds) fields ≡ refuse 46
  unfolding packed_cards onward must
  cut_off kind e h = rw (e, lt-leb (packed_size v kind) (length fields) h) refl

  pub and_card : (kind : Kind) → kind_of n ≡ pass kind → packed_size v kind ≤ length fields → packed_cards v (n ∷ kinds) fields ≡ and_rest kind
  unfolding packed_cards onward must
  and_card kind e h = rw (e, le-leb (packed_size v kind) (length fields) h) refl

  -- one more card that passes
  pub record OneMore (cards : List Card) : Type 0 where
    pub kind : Kind
    pub rest : List Card
    pub known : kind_of n ≡ pass kind
    pub room : packed_size v kind ≤ length fields
    pub others : packed_cards v kinds (drop (packed_size v kind) fields) ≡ pass rest
    pub cards_is : cards ≡ packed_card kind (take (packed_size v kind) fields) ∷ rest

  pub one_more : (cards : List Card) → packed_cards v (n ∷ kinds) fields ≡ pass cards → OneMore cards
  unfolding packed_cards
  one_more cards h =
      let K = rows_passed (kind_of n) (λ kind. must (leb (packed_size v kind) (length fields)) 46 (and_rest kind)) h in
      let kind : Kind = K.0 in
      let R = test_passed (leb (packed_size v kind) (length fields)) 46 (and_rest kind) K.2 in
      let O = rows_passed (packed_cards v kinds (drop (packed_size v kind) fields)) (λ rest. pass (packed_card kind (take (packed_size v kind) fields) ∷ rest)) R.1 in
      record { kind = kind; rest = O.0; known = K.1; room = leb-true (packed_size v kind) (length fields) R.0; others = O.1; cards_is = sym (pass_once O.2) }

-- after the last one
pub left_over : (v : Version) (fields : List ℕ) → (length fields ≡ 0 → ⊥) → packed_cards v [] fields ≡ refuse 46
unfolding packed_cards must
left_over v fields h = rw (ne_eqb (length fields) 0 h) refl

pub none_left : (v : Version) (fields : List ℕ) → length fields ≡ 0 → packed_cards v [] fields ≡ pass []
unfolding packed_cards must
none_left v fields h = rw h refl

ended : (v : Version) (fields : List ℕ) (cards : List Card) → packed_cards v [] fields ≡ pass cards → (fields ≡ []) × (cards ≡ [])
unfolding packed_cards
ended v fields cards h =
    let E = test_passed (eqb (length fields) 0) 46 (pass []) h in
    (drop_of_length-le fields {i = 0} (omega (arith, eqb-true (length fields) 0 E.0)), sym (pass_once E.1))

-- as many cards as kinds
pub as_many : (v : Version) (kinds fields : List ℕ) (cards : List Card) → packed_cards v kinds fields ≡ pass cards → length cards ≡ length kinds
as_many v [] fields cards h = ap length (ended v fields cards h).1
as_many v (n ∷ kinds) fields cards h =
    let m = one_more v n kinds fields cards h in
    ap length m.cards_is ∙ ap suc (as_many v kinds (drop (packed_size v m.kind) fields) m.rest m.others)

-- each with its kind's size
pub packed_sized : (v : Version) (kinds fields : List ℕ) (cards : List Card) → packed_cards v kinds fields ≡ pass cards → AllSized v cards
packed_sized v [] fields cards h = subst (AllSized v) (sym (ended v fields cards h).1) tt
packed_sized v (n ∷ kinds) fields cards h =
    let m = one_more v n kinds fields cards h in
    let s = packed_size v m.kind in
    subst (AllSized v) (sym m.cards_is) (length_body v m.kind (take s fields) (length-take-le s fields m.room), packed_sized v kinds (drop s fields) m.rest m.others)

-- the cards that come out have the kinds and the fields that went in
pub same_fields : (v : Version) (kinds fields : List ℕ) (cards : List Card) → packed_cards v kinds fields ≡ pass cards → (kinds_of cards ≡ kinds) × (fields_of v cards ≡ fields)
unfolding fields_of
same_fields v [] fields cards h = rw ((ended v fields cards h).0, (ended v fields cards h).1) (refl, refl)
same_fields v (n ∷ kinds) fields cards h =
    let m = one_more v n kinds fields cards h in
    let s = packed_size v m.kind in
    let others = same_fields v kinds (drop s fields) m.rest m.others in
    rw m.cards_is (
      ap₂ ◌∷◌ (number_of_kind n m.kind m.known) others.0,
      ap₂ ◌++◌ (fields_back v m.kind (take s fields) (length-take-le s fields m.room)) others.1 ∙ take-append-drop s fields,
    )

-- and kinds and fields of cards are packed cards again, their spares cleared
pub packed_back : (v : Version) (cards : List Card) → AllSized v cards → packed_cards v (kinds_of cards) (fields_of v cards) ≡ pass (map (cleared v) cards)
unfolding fields_of onward
packed_back v [] w = none_left v [] refl
packed_back v (c ∷ cards) w =
    let s = packed_size v c.kind in
    let here = fields_in v c.kind c.body in
    let long : length here ≡ s = length_fields v c.kind c.body w.0 in
    let inside : s ≤ length (here ++ fields_of v cards) = rw (length-append here (fields_of v cards)) (omega (arith, long)) in
    and_card v (kind_number c.kind) (kinds_of cards) (here ++ fields_of v cards) c.kind (kind_of_number c.kind) inside
    ∙ rw (take_at here (fields_of v cards) s long, drop_at here (fields_of v cards) s long, packed_back v cards w.1) refl
