-- Decks of version 1 have the answers that they had before there was a version 2. The rules as they stood then are restated here, with the sizes of
-- bodies in literal numbers; the verdicts are those of the earlier rules too (`earlier_verdict`).
use mathlib.Core.Path.{◌≡◌, refl, ap, ap₂, fun_ext, ◌∙◌}
use mathlib.Core.Bool.{Bool, true, false}
use mathlib.Core.List.{List, [], ◌∷◌, map}
use Prim.Native.Nat.{ℕ, zero, suc, ◌+◌, ◌*◌}
use lib.Dec.{eqb, leb}
use lib.ListN.{length, take, drop}
use Rattle.words.specs.Words.{value_at}
use Rattle.rows.specs.Rows.{Checked, pass, refuse, must, onward}
use Rattle.version.specs.declared.Version.TheVariants as version
use Rattle.version.specs.Version.{version_of, tag_size}
use Rattle.card.specs.declared.Kind.{Kind}
use Rattle.card.specs.declared.Kind.TheVariants as kind
use Rattle.card.specs.Fields.{Card, answer_size, size_of}
use Rattle.contents.specs.Contents.{entry_at, most_cards, count_of, kind_at, offset_at, length_at, entry_in, cards_from, deck_in}
use Rattle.contents.proofs.Cards.{AllSized, sized_from}
use Rattle.contents.proofs.Opened.{with_version}
use Rattle.ruling.specs.Said.{Said}
use Rattle.verdict.proofs.Earlier.{earlier_verdict, earlier_verdict_lem}
use Rattle.deck.specs.Check.{verdicts_of, judged_of, tallied, answer_of, written, list_after}

-- ---- the rules as they stood before version 2

-- the bytes of a body: 128, 80 and 104
abbrev pub earlier_size : Kind → ℕ
earlier_size kind.Solved = 128
earlier_size kind.Refused = 80
earlier_size kind.Transfer = 104

-- an entry, and the cards from entry i on
unfoldable pub earlier_entry : List ℕ → (i at : ℕ) → Checked Kind
earlier_entry deck i at =
    onward (kind_at deck i) (λ kind.
    must (eqb (length_at deck i) (earlier_size kind)) 35
    (must (eqb (offset_at deck i) at) 36
    (must (leb (at + earlier_size kind) (length deck)) 37
    (pass kind))))

unfoldable pub earlier_from : List ℕ → (left i at : ℕ) → Checked (List Card)
earlier_from deck zero i at = must (eqb at (length deck)) 38 (pass [])
earlier_from deck (suc left) i at =
    onward (earlier_entry deck i at) (λ kind.
    onward (earlier_from deck left (i + 1) (at + earlier_size kind)) (λ rest.
    pass (record { kind = kind; body = take (earlier_size kind) (drop at deck) } ∷ rest)))

-- the version is 1, or 31
unfoldable pub earlier_cards : List ℕ → Checked (List Card)
earlier_cards deck =
    let count = count_of deck in
    must (leb 8 (length deck)) 30
    (must (eqb (value_at 4 deck 0) 1) 31
    (must (leb count 256) 32
    (must (leb (8 + 12 * count) (length deck)) 33
    (earlier_from deck count 0 (8 + 12 * count)))))

unfoldable pub earlier_judged : List ℕ → (room : ℕ) → Checked (List Said)
earlier_judged deck room =
    onward (earlier_cards deck) (λ cards.
    must (leb (count_of deck) room) 39
    (pass (map (λ (c : Card). earlier_verdict c.kind c.body) cards)))

-- ---- each size is what it was, so each row is

same_size : (k : Kind) → size_of version.One k ≡ earlier_size k
unfolding answer_size tag_size
same_size kind.Solved = refl
same_size kind.Refused = refl
same_size kind.Transfer = refl

same_entry : (deck : List ℕ) (i at : ℕ) → entry_in version.One deck i at ≡ earlier_entry deck i at
unfolding entry_in earlier_entry
same_entry deck i at = ap (onward (kind_at deck i)) (fun_ext λ k. ap (λ (size : ℕ). must (eqb (length_at deck i) size) 35 (must (eqb (offset_at deck i) at) 36 (must (leb (at + size) (length deck)) 37 (pass k)))) (same_size k))

same_from : (deck : List ℕ) (left i at : ℕ) → cards_from version.One deck left i at ≡ earlier_from deck left i at
unfolding cards_from earlier_from
same_from deck zero i at = refl
same_from deck (suc left) i at =
    ap₂ onward (same_entry deck i at) (fun_ext λ k.
    ap (λ (size : ℕ). onward (cards_from version.One deck left (i + 1) (at + size)) (λ rest. pass (record { kind = k; body = take size (drop at deck) } ∷ rest))) (same_size k)
    ∙ ap (λ (others : Checked (List Card)). onward others (λ rest. pass (record { kind = k; body = take (earlier_size k) (drop at deck) } ∷ rest))) (same_from deck left (i + 1) (at + earlier_size k)))

same_verdicts : (cards : List Card) → AllSized version.One cards → verdicts_of version.One cards ≡ map (λ (c : Card). earlier_verdict c.kind c.body) cards
same_verdicts [] w = refl
same_verdicts (c ∷ cards) w = ap₂ ◌∷◌ (earlier_verdict_lem c.kind c.body w.0) (same_verdicts cards w.1)

-- ---- so the answers are what they were

-- two rows that go on alike behind a test do so with it
through : {A B C : Type 0} (t : Bool) (k : ℕ) (m : Checked A) (n : Checked B) (f : A → Checked C) (g : B → Checked C) → onward m f ≡ onward n g → onward (must t k m) f ≡ onward (must t k n) g
unfolding onward must
through true k m n f g e = e
through false k m n f g e = refl

-- the verdicts on the cards that the entries come to
judged_alike : (deck : List ℕ) (left i at : ℕ) (t : Bool) → onward (with_version version.One (cards_from version.One deck left i at)) (λ d. must t 39 (pass (verdicts_of d.version d.cards))) ≡ onward (earlier_from deck left i at) (λ cards. must t 39 (pass (map (λ (c : Card). earlier_verdict c.kind c.body) cards)))
unfolding onward
judged_alike deck left i at t = go (cards_from version.One deck left i at) refl ∙ ap (λ (m : Checked (List Card)). onward m (λ cards. must t 39 (pass (map (λ (c : Card). earlier_verdict c.kind c.body) cards)))) (same_from deck left i at)
  where
    go : (m : Checked (List Card)) → cards_from version.One deck left i at ≡ m → onward (with_version version.One m) (λ d. must t 39 (pass (verdicts_of d.version d.cards))) ≡ onward m (λ cards. must t 39 (pass (map (λ (c : Card). earlier_verdict c.kind c.body) cards)))
    go (pass cards) e = ap (λ (verdicts : List Said). must t 39 (pass verdicts)) (same_verdicts cards (sized_from version.One deck left i at cards e))
    go (refuse k) e = refl

pub earlier_judged_lem : (deck : List ℕ) (room : ℕ) → value_at 4 deck 0 ≡ 1 → judged_of deck room ≡ earlier_judged deck room
unfolding judged_of deck_in earlier_judged earlier_cards version_of onward must
earlier_judged_lem deck room one =
    let n = count_of deck in
    rw one (through (leb 8 (length deck)) 30 _ _ _ _ (through (leb n most_cards) 32 _ _ _ _ (through (leb (entry_at n) (length deck)) 33 _ _ _ _ (judged_alike deck n 0 (entry_at n) (leb n room)))))

-- what the check of a deck of version 1 answers, and the list afterwards
pub earlier_answer : (deck : List ℕ) (room : ℕ) → value_at 4 deck 0 ≡ 1 → answer_of deck room ≡ tallied (earlier_judged deck room)
unfolding answer_of
earlier_answer deck room one = ap tallied (earlier_judged_lem deck room one)

pub earlier_list : (deck list : List ℕ) → value_at 4 deck 0 ≡ 1 → list_after deck list ≡ written (earlier_judged deck (length list)) list
unfolding list_after
earlier_list deck list one = ap (λ (m : Checked (List Said)). written m list) (earlier_judged_lem deck (length list) one)
