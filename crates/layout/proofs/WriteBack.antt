-- An accepted deck is the layout of its cards, which are at most 256 and have their kinds' sizes: each number that was read is the bytes that
-- stand there, each body is what it was taken from, and nothing is left over behind the last one.
use mathlib.Core.Path.{◌≡◌, refl, sym, ap, ◌∙◌}
use mathlib.Core.List.{List, [], ◌++◌, append_assoc}
use Prim.Native.Nat.{ℕ, zero, suc, ◌+◌, ◌≤◌}
use native.Mathlib.Omega.{arith}
use borrow.Author.Tests.{eqb-true}
use lib.Dec.{eqb}
use lib.ListN.{length, take, drop, drop_of_length-le}
use Rattle.words.proofs.Written.{Bytes}
use Rattle.words.proofs.Standing.{stands, number_stands}
use Rattle.rows.specs.Rows.{pass}
use Rattle.rows.proofs.Laws.{test_passed}
use Rattle.version.specs.declared.Version.{Version}
use Rattle.version.specs.Version.{version_number}
use Rattle.version.proofs.Sizes.{number_of_version}
use Rattle.card.specs.declared.Kind.{Kind}
use Rattle.card.specs.Fields.{Card, kind_number, size_of}
use Rattle.contents.specs.Contents.{Deck, entry_at, most_cards, version_word, count_of, entry_in, cards_from, deck_in}
use Rattle.contents.proofs.Cards.{AllSized, sized_from, entry_means, one_more, no_more}
use Rattle.contents.proofs.Opened.{opened_to}
use Rattle.contents.proofs.Sizes.{few_cards}
use Rattle.layout.specs.Layout.{entry_for, entries_from, kinds_in, bodies_of, deck_of}
use Rattle.layout.proofs.KindNumbers.{number_of_kind}

-- ---- the sizes

pub cards_sized : (deck : List ℕ) (d : Deck) → deck_in deck ≡ pass d → (length d.cards ≤ most_cards) × AllSized d.version d.cards
cards_sized deck d h =
    let n = count_of deck in
    (omega (arith, few_cards deck d h), sized_from d.version deck n 0 (entry_at n) d.cards (opened_to deck d h).1)

-- ---- the bytes

-- where an entry passes, it stands
entry_stands : (v : Version) (deck : List ℕ) (i at : ℕ) (kind : Kind) → Bytes deck → entry_at (i + 1) ≤ length deck → entry_in v deck i at ≡ pass kind → drop (entry_at i) deck ≡ entry_for v kind at ++ drop (entry_at (i + 1)) deck
entry_stands v deck i at kind b inside h =
    let m = entry_means v deck i at kind h in
    let kind-stands = number_stands 4 deck (entry_at i) (entry_at i + 4) (kind_number kind) b refl (omega arith) (sym (number_of_kind _ kind m.kind_is)) in
    let offset-stands = number_stands 4 deck (entry_at i + 4) (entry_at i + 8) at b (omega arith) (omega arith) m.offset_is in
    let length-stands = number_stands 4 deck (entry_at i + 8) (entry_at (i + 1)) (size_of v kind) b (omega arith) inside m.length_is in
    rw (kind-stands, offset-stands, length-stands) (simp append_assoc refl)

entries_stand : (v : Version) (deck : List ℕ) (left i at : ℕ) (cards : List Card) → Bytes deck → entry_at (i + left) ≤ length deck → cards_from v deck left i at ≡ pass cards → drop (entry_at i) deck ≡ entries_from v at (kinds_in cards) ++ drop (entry_at (i + left)) deck
unfolding entries_from
entries_stand v deck zero i at cards b inside h =
    let none : i + 0 ≡ i = omega arith in
    rw (no_more v deck i at cards h, none) refl
entries_stand v deck (suc left) i at cards b inside h =
    let m = one_more v deck left i at cards h in
    let next : i + suc left ≡ i + 1 + left = omega arith in
    rw (m.cards_is, next, entry_stands v deck i at m.kind b (omega arith) m.entry, entries_stand v deck left (i + 1) (at + size_of v m.kind) m.rest b (omega arith) m.others) (simp append_assoc refl)

bodies_stand : (v : Version) (deck : List ℕ) (left i at : ℕ) (cards : List Card) → cards_from v deck left i at ≡ pass cards → drop at deck ≡ bodies_of cards
unfolding cards_from bodies_of
bodies_stand v deck zero i at cards h =
    let end : at ≡ length deck = eqb-true at (length deck) (test_passed (eqb at (length deck)) 38 (pass []) h).0 in
    drop_of_length-le deck {i = at} (omega arith) ∙ ap bodies_of (sym (no_more v deck i at cards h))
bodies_stand v deck (suc left) i at cards h =
    let m = one_more v deck left i at cards h in
    let size = size_of v m.kind in
    stands deck at size ∙ ap (λ (rest : List ℕ). take size (drop at deck) ++ rest) (bodies_stand v deck left (i + 1) (at + size) m.rest m.others) ∙ ap bodies_of (sym m.cards_is)

pub write_back : (deck : List ℕ) (d : Deck) → Bytes deck → deck_in deck ≡ pass d → deck_of d ≡ deck
unfolding deck_of
write_back deck d b h =
    let v = d.version in
    let cards = d.cards in
    let n = count_of deck in
    let o = (opened_to deck d h).0 in
    let from = (opened_to deck d h).1 in
    let inside = o.inside in
    let version-stands = number_stands 4 deck 0 4 (version_number v) b refl (omega arith) (number_of_version (version_word deck) v o.version) in
    let count-stands = number_stands 4 deck 4 (entry_at 0) n b refl (omega arith) refl in
    let all : 0 + n ≡ n = omega arith in
    let entries = rw all at (entries_stand v deck n 0 (entry_at n) cards b (omega arith) from) in
    simp append_assoc
    (rw ((few_cards deck d h).0, ← bodies_stand v deck n 0 (entry_at n) cards from, ← entries, ← count-stands) (sym version-stands))
