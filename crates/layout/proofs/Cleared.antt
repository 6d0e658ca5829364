-- Clearing the spares of cards whose spares are 0 changes nothing: four bytes below 256 whose value is 0 are the bytes of 0, and a body is the
-- problem, its spare, the rest and, on a refused card, the last spare; on a transfer the problem and the rest.
use mathlib.Core.Path.{◌≡◌, refl, sym, ap, ap₂, subst, ◌∙◌}
use mathlib.Core.List.{List, [], ◌∷◌, ◌++◌, map, append-nil}
use Prim.Native.Nat.{ℕ, zero, suc, ◌+◌, ◌≤◌}
use native.Mathlib.Omega.{arith}
use lib.ListN.{length, take, drop, length-drop, drop_of_length-le}
use lib.Seq.{length-take-le, take_all}
use Rattle.words.proofs.Written.{Bytes, bytes_behind}
use Rattle.words.proofs.Standing.{stands, number_stands, bytes_first}
use Rattle.rows.specs.Rows.{pass, onward}
use Rattle.words.specs.Words.{value_at}
use Rattle.version.specs.declared.Version.{Version}
use Rattle.version.specs.Version.{version_number, form_number}
use Rattle.card.specs.declared.Kind.{Kind}
use Rattle.card.specs.declared.Kind.TheVariants as kind
use Rattle.card.specs.Fields.{Card, problem_size, spare_size, question_size, answer_size, size_of, answer_at, parts_of, own_size, rest_size, spare_of, last_spare_of}
use Rattle.card.specs.Made.{spare, body_of, rest_from, fields_in, body_from}
use Rattle.card.proofs.Packed.{body_back}
use Rattle.card.proofs.Parts.{question_reads, answer_reads}
use Rattle.contents.specs.Contents.{Deck, entry_at, most_cards, count_of, cards_from, deck_in}
use Rattle.contents.proofs.Cards.{AllSized, sized_from, one_more, no_more}
use Rattle.contents.proofs.Opened.{with_version, opened_to}
use Rattle.layout.specs.Layout.{deck_of}
use Rattle.layout.specs.Packed.{kinds_of, fields_of, finished_deck, cleared}
use Rattle.layout.proofs.Packed.{length_kinds, packed_back}
use Rattle.layout.proofs.WriteBack.{cards_sized, write_back}
use Rattle.layout.proofs.Writing.{finished_in, few_enough}

-- the spares of a body are 0, a transfer having none, and those of each card
abbrev pub SpareZero : Version → Kind → List ℕ → Type 0
SpareZero v kind.Solved body = spare_of (parts_of v kind.Solved body).question ≡ 0
SpareZero v kind.Refused body = let card = parts_of v kind.Refused body in (spare_of card.question ≡ 0) × (last_spare_of card.answer ≡ 0)
SpareZero v kind.Transfer body = Unit

abbrev pub SparesZero : Version → List Card → Type 0
SparesZero v [] = Unit
SparesZero v (c ∷ cards) = SpareZero v c.kind c.body × SparesZero v cards

-- the fields of a body come apart again
fields_apart : (v : Version) (kind : Kind) (body : List ℕ) → problem_size ≤ length body → body_from kind (fields_in v kind body) ≡ body_of kind (take problem_size body) (take (rest_size v kind) (drop (rest_from kind) body))
fields_apart v kind body long = body_back kind (take problem_size body) (take (rest_size v kind) (drop (rest_from kind) body)) (length-take-le problem_size body long)

-- where the spare of a body is 0, its bytes stand
spare_stands : (v : Version) (kind : Kind) (body : List ℕ) → length body ≡ size_of v kind → Bytes body → spare_of (parts_of v kind body).question ≡ 0 → drop problem_size body ≡ spare ++ drop question_size body
spare_stands v kind body size b z = number_stands spare_size body problem_size question_size 0 b refl (omega (arith, size)) (sym (question_reads v kind body size spare_size problem_size (omega arith)) ∙ z)

pub body_cleared : (v : Version) (kind : Kind) (body : List ℕ) → length body ≡ size_of v kind → Bytes body → SpareZero v kind body → body_from kind (fields_in v kind body) ≡ body
unfolding answer_size own_size rest_from answer_at
body_cleared v kind.Solved body size b z =
    let rest_all : take (rest_size v kind.Solved) (drop question_size body) ≡ drop question_size body = take_all (rest_size v kind.Solved) (drop question_size body) (simp length-drop (omega (arith, size))) in
    fields_apart v kind.Solved body (omega (arith, size)) ∙ rw (rest_all, ← spare_stands v kind.Solved body size b z) (sym (stands body 0 problem_size))
body_cleared v kind.Refused body size b z =
    let last-at : ℕ = question_size + rest_size v kind.Refused in
    let last_is : value_at spare_size body last-at ≡ 0 = ap (value_at spare_size body) (omega arith) ∙ sym (answer_reads v kind.Refused body size spare_size 4 (omega arith)) ∙ z.1 in
    let last-stands : drop last-at body ≡ spare = number_stands spare_size body last-at (last-at + spare_size) 0 b refl (omega (arith, size)) last_is ∙ ap (λ (rest : List ℕ). spare ++ rest) (drop_of_length-le body {i = last-at + spare_size} (omega (arith, size))) ∙ append-nil spare in
    let rest-stands : drop question_size body ≡ take (rest_size v kind.Refused) (drop question_size body) ++ spare = stands body question_size (rest_size v kind.Refused) ∙ ap (λ (rest : List ℕ). take (rest_size v kind.Refused) (drop question_size body) ++ rest) last-stands in
    fields_apart v kind.Refused body (omega (arith, size)) ∙ rw (← rest-stands, ← spare_stands v kind.Refused body size b z.0) (sym (stands body 0 problem_size))
body_cleared v kind.Transfer body size b z =
    let rest_all : take (rest_size v kind.Transfer) (drop problem_size body) ≡ drop problem_size body = take_all (rest_size v kind.Transfer) (drop problem_size body) (simp length-drop (omega (arith, size))) in
    fields_apart v kind.Transfer body (omega (arith, size)) ∙ rw rest_all (sym (stands body 0 problem_size))

cleared_from : (v : Version) (deck : List ℕ) (left i at : ℕ) (cards : List Card) → Bytes deck → cards_from v deck left i at ≡ pass cards → SparesZero v cards → map (cleared v) cards ≡ cards
cleared_from v deck zero i at cards b h z = rw (no_more v deck i at cards h) refl
cleared_from v deck (suc left) i at cards b h z =
    let m = one_more v deck left i at cards h in
    let kind = m.kind in
    let size = (subst (AllSized v) m.cards_is (sized_from v deck (suc left) i at cards h)).0 in
    let zeros = subst (SparesZero v) m.cards_is z in
    let body_is = body_cleared v kind (take (size_of v kind) (drop at deck)) size (bytes_first (size_of v kind) (drop at deck) (bytes_behind deck at b)) zeros.0 in
    rw m.cards_is (ap₂ ◌∷◌ (ap (λ (body : List ℕ). record { kind = kind; body = body }) body_is) (cleared_from v deck left (i + 1) (at + size_of v kind) m.rest b m.others zeros.1))

pub cleared_same : (deck : List ℕ) (d : Deck) → Bytes deck → deck_in deck ≡ pass d → SparesZero d.version d.cards → map (cleared d.version) d.cards ≡ d.cards
cleared_same deck d b h z = cleared_from d.version deck (count_of deck) 0 (entry_at (count_of deck)) d.cards b (opened_to deck d h).1 z

-- so reading an accepted deck whose spares are 0 and writing its cards, from their kinds and fields, in its own version, gives the same bytes
pub written_again : (deck : List ℕ) (d : Deck) → Bytes deck → deck_in deck ≡ pass d → SparesZero d.version d.cards
    → (finished_deck (version_number d.version) (form_number d.version) (kinds_of d.cards) (fields_of d.version d.cards) ≡ pass d) × (deck_of d ≡ deck)
unfolding onward
written_again deck d b h z =
    let v = d.version in
    let sized = cards_sized deck d h in
    let few : length (kinds_of d.cards) ≤ most_cards = omega (arith, length_kinds d.cards, sized.0) in (
      finished_in v (kinds_of d.cards) (fields_of v d.cards)
          ∙ few_enough v (kinds_of d.cards) (fields_of v d.cards) few
          ∙ ap (with_version v) (packed_back v d.cards sized.1 ∙ ap pass (cleared_same deck d b h z)),
      write_back deck d b h,
    )
