-- A deck that is laid out from cards comes to these cards: entry by entry, the numbers that were written are read, and the body stands where
-- the entry says. Each number fits its four bytes, since the deck has no more than the largest deck's.
use mathlib.Core.Path.{◌≡◌, refl, sym, ap, ◌∙◌}
use mathlib.Core.List.{List, [], ◌∷◌, ◌++◌, append_assoc}
use Prim.Native.Nat.{ℕ, ◌+◌, ◌-◌, ◌^◌, ◌≤◌, ◌<◌}
use native.Mathlib.Omega.{arith}
use borrow.Author.Tests.{eq-eqb, le-leb}
use lib.ListN.{length, take, drop, length-append, length-drop, length-map}
use lib.Seq.{take_at}
use Rattle.spelled.specs.Spelled.{bytes_of}
use Rattle.spelled.proofs.Length.{length_bytes}
use Rattle.words.proofs.Standing.{past, read_there}
use Rattle.rows.specs.Rows.{pass, must, onward}
use Rattle.version.specs.declared.Version.{Version}
use Rattle.version.specs.Version.{version_of, version_number}
use Rattle.version.proofs.Sizes.{version_of_number, version_small}
use Rattle.card.specs.declared.Kind.{Kind}
use Rattle.card.specs.declared.Kind.TheVariants as kind
use Rattle.card.specs.Fields.{Card, kind_of, kind_number, size_of}
use Rattle.card.proofs.Sizes.{size_most}
use Rattle.contents.specs.Contents.{Deck, header_size, entry_at, most_cards, version_word, count_of, kind_at, offset_at, length_at, entry_in, cards_from, deck_in, largest_deck}
use Rattle.contents.proofs.Cards.{AllSized}
use Rattle.layout.specs.Layout.{entry_for, entries_from, kinds_in, bodies_of, deck_of}
use Rattle.layout.proofs.Sizes.{length_entry, length_entries, length_deck, deck_most}
use Rattle.layout.proofs.KindNumbers.{kind_of_number}

number_small : (k : Kind) → kind_number k < 256 ^ 4
unfolding kind_number
number_small kind.Solved = omega arith
number_small kind.Refused = omega arith
number_small kind.Transfer = omega arith

-- where an entry stands, it passes
entry_passes : (v : Version) (deck rest : List ℕ) (i at : ℕ) (kind : Kind) → drop (entry_at i) deck ≡ entry_for v kind at ++ rest → at + size_of v kind ≤ length deck → length deck ≤ largest_deck → entry_in v deck i at ≡ pass kind
unfolding entry_in must onward
entry_passes v deck rest i at kind e inside most =
    let behind = bytes_of 4 (size_of v kind) ++ rest in
    let kind-there : drop (entry_at i) deck ≡ bytes_of 4 (kind_number kind) ++ (bytes_of 4 at ++ behind) = e ∙ simp append_assoc refl in
    let offset-there : drop (entry_at i + 4) deck ≡ bytes_of 4 at ++ behind = past deck (bytes_of 4 (kind_number kind)) _ (entry_at i) (entry_at i + 4) kind-there (rw length_bytes refl) in
    let length-there : drop (entry_at i + 8) deck ≡ behind = past deck (bytes_of 4 at) _ (entry_at i + 4) (entry_at i + 8) offset-there (rw length_bytes (omega arith)) in
    let kind_is : kind_at deck i ≡ pass kind = ap kind_of (read_there 4 deck _ (entry_at i) (kind_number kind) kind-there (omega arith) (number_small kind)) ∙ kind_of_number kind in
    let offset_is : offset_at deck i ≡ at = read_there 4 deck _ (entry_at i + 4) at offset-there (omega arith) (omega arith) in
    let length_is : length_at deck i ≡ size_of v kind = read_there 4 deck _ (entry_at i + 8) (size_of v kind) length-there (omega arith) (omega (arith, size_most v kind)) in
    rw (kind_is, eq-eqb (length_at deck i) (size_of v kind) length_is, eq-eqb (offset_at deck i) at offset_is, le-leb (at + size_of v kind) (length deck) inside) refl

-- where entries and bodies of cards stand, these are the cards
from_here : (v : Version) (deck rest : List ℕ) (cards : List Card) (i at : ℕ) → drop (entry_at i) deck ≡ entries_from v at (kinds_in cards) ++ rest → drop at deck ≡ bodies_of cards → at ≤ length deck → length deck ≤ largest_deck → AllSized v cards → cards_from v deck (length cards) i at ≡ pass cards
unfolding entries_from bodies_of cards_from must onward
from_here v deck rest [] i at e b within most w =
    let none_left : length deck - at ≡ 0 = sym (length-drop at deck) ∙ ap length b in
    rw (eq-eqb at (length deck) (omega (arith, none_left, within))) refl
from_here v deck rest (c ∷ cards) i at e b within most w =
    let kind = c.kind in
    let end = at + size_of v kind in
    let behind = entries_from v end (kinds_in cards) ++ rest in
    let there : drop (entry_at i) deck ≡ entry_for v kind at ++ behind = e ∙ append_assoc (entry_for v kind at) (entries_from v end (kinds_in cards)) rest in
    let room : length deck - at ≡ size_of v kind + length (bodies_of cards) = sym (length-drop at deck) ∙ ap length b ∙ length-append c.body (bodies_of cards) ∙ ap (λ (n : ℕ). n + length (bodies_of cards)) w.0 in
    let inside : end ≤ length deck = omega (arith, room, within) in
    let others = from_here v deck rest cards (i + 1) end (past deck (entry_for v kind at) behind (entry_at i) (entry_at (i + 1)) there (rw (length_entry v kind at) (omega arith))) (past deck c.body (bodies_of cards) at end b (ap (λ (n : ℕ). at + n) w.0)) inside most w.1 in
    let body_is : take (size_of v kind) (drop at deck) ≡ c.body = ap (take (size_of v kind)) b ∙ take_at c.body (bodies_of cards) (size_of v kind) w.0 in
    rw (entry_passes v deck behind i at kind there inside most, others, body_is) refl

deck_is : (d : Deck) → drop 0 (deck_of d) ≡ bytes_of 4 (version_number d.version) ++ (bytes_of 4 (length d.cards) ++ (entries_from d.version (entry_at (length d.cards)) (kinds_in d.cards) ++ bodies_of d.cards))
unfolding deck_of
deck_is d = simp append_assoc refl

pub read_back : (d : Deck) → length d.cards ≤ most_cards → AllSized d.version d.cards → deck_in (deck_of d) ≡ pass d
unfolding deck_in must onward
read_back d few w =
    let v = d.version in
    let cards = d.cards in
    let deck = deck_of d in
    let n = length cards in
    let entries = entries_from v (entry_at n) (kinds_in cards) in
    let count-there : drop 4 deck ≡ bytes_of 4 n ++ (entries ++ bodies_of cards) = past deck (bytes_of 4 (version_number v)) _ 0 4 (deck_is d) (rw length_bytes refl) in
    let entries-there : drop (entry_at 0) deck ≡ entries ++ bodies_of cards = past deck (bytes_of 4 n) _ 4 (entry_at 0) count-there (rw length_bytes refl) in
    let bodies-there : drop (entry_at n) deck ≡ bodies_of cards = past deck entries _ (entry_at 0) (entry_at n) entries-there (rw (length_entries v (entry_at n) (kinds_in cards), length-map cards (λ (c : Card). c.kind)) (omega arith)) in
    let version-is : version_of (version_word deck) ≡ pass v = ap version_of (read_there 4 deck _ 0 (version_number v) (deck_is d) (omega arith) (version_small v)) ∙ version_of_number v in
    let count_is : count_of deck ≡ n = read_there 4 deck _ 4 n count-there (omega arith) (omega arith) in
    let long : entry_at n ≤ length deck = omega (arith, length_deck d) in
    let all = from_here v deck (bodies_of cards) cards 0 (entry_at n) entries-there bodies-there long (deck_most d few w) w in
    rw (count_is, version-is, le-leb header_size (length deck) (omega arith), le-leb n most_cards few, le-leb (entry_at n) (length deck) long, all) refl
