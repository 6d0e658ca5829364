-- The loop that measures a deck, turn by turn: what is left of kinds and fields, with the length so far, comes to what the whole comes to.
use mathlib.Core.Path.{◌≡◌, refl, sym, ap, ◌∙◌}
use mathlib.Core.List.{List, [], ◌∷◌}
use Prim.Native.Nat.{ℕ, ◌+◌, ◌-◌, ◌*◌, ◌≤◌, ◌<◌}
use native.Mathlib.Numerals.{add-one}
use native.Mathlib.Omega.{arith}
use lib.ListN.{length, take, drop, get_or, length-append, length-drop, drop_of_length-le}
use lib.Seq.{length-take-le, drop-cons, drop-drop}
use Rattle.rows.specs.Rows.{Checked, pass, refuse, onward}
use Rattle.version.specs.declared.Version.{Version}
use Rattle.card.specs.declared.Kind.{Kind}
use Rattle.card.specs.Fields.{Card, kind_of, size_of, largest_body, packed_size}
use Rattle.card.specs.Made.{body_from}
use Rattle.card.proofs.Sizes.{size_most}
use Rattle.card.proofs.Packed.{length_body}
use Rattle.contents.specs.Contents.{entry_at, most_cards}
use Rattle.contents.proofs.Opened.{with_version}
use Rattle.layout.specs.Layout.{bodies_of, deck_of}
use Rattle.layout.specs.Packed.{packed_cards, packed_deck}
use Rattle.layout.proofs.Sizes.{length_deck}
use Rattle.layout.proofs.Writing.{few_enough}
use Rattle.layout.proofs.Packed.{unknown, cut_off, and_card, left_over, none_left, as_many}

-- a length, and the bodies that are still to come
abbrev longer : (n : ℕ) → List Card → Checked ℕ
longer n rest = pass (n + length (bodies_of rest))

abbrev pub length_of : Version → (kinds fields : List ℕ) → Checked ℕ
length_of v kinds fields = onward (packed_deck v kinds fields) (λ d. pass (length (deck_of d)))

pub record Measuring (v : Version) (kinds fields : List ℕ) (i at end : ℕ) : Type 0 where
  pub within : at ≤ length fields
  pub most : end ≤ entry_at (length kinds) + largest_body * i
  pub same : onward (packed_cards v (drop i kinds) (drop at fields)) (longer end) ≡ length_of v kinds fields

-- the first length is that of header and entries
pub set_out : (v : Version) (kinds fields : List ℕ) → length kinds ≤ most_cards → Measuring v kinds fields 0 0 (entry_at (length kinds))
unfolding onward
set_out v kinds fields few = record { within = omega arith; most = omega arith; same = go (packed_cards v kinds fields) refl ∙ ap (λ m. onward m (λ d. pass (length (deck_of d)))) (sym (few_enough v kinds fields few)) }
  where
    go : (m : Checked (List Card)) → packed_cards v kinds fields ≡ m → onward m (longer (entry_at (length kinds))) ≡ onward (with_version v m) (λ d. pass (length (deck_of d)))
    go (refuse k) e = refl
    go (pass cards) e = ap pass (ap (λ (n : ℕ). entry_at n + length (bodies_of cards)) (sym (as_many v kinds fields cards e)) ∙ sym (length_deck (record { version = v; cards = cards })))

module _ {v : Version} {kinds fields : List ℕ} {i at end : ℕ} (m : Measuring v kinds fields i at end) where
  -- while a kind is left
  this : i < length kinds → onward (packed_cards v (get_or kinds i 0 ∷ drop (i + 1) kinds) (drop at fields)) (longer end) ≡ length_of v kinds fields
  this h =
      let kind-first : drop i kinds ≡ get_or kinds i 0 ∷ drop (i + 1) kinds = drop-cons kinds i 0 h ∙ ap (λ (n : ℕ). get_or kinds i 0 ∷ drop n kinds) (sym (add-one i)) in
      ap (λ (l : List ℕ). onward (packed_cards v l (drop at fields)) (longer end)) (sym kind-first) ∙ m.same

  pub no_kind : (k : ℕ) → i < length kinds → kind_of (get_or kinds i 0) ≡ refuse k → refuse k ≡ length_of v kinds fields
  unfolding onward
  no_kind k h e = sym (ap (λ p. onward p (longer end)) (unknown v (get_or kinds i 0) (drop (i + 1) kinds) (drop at fields) k e)) ∙ this h

  pub ends_inside : (kind : Kind) → i < length kinds → kind_of (get_or kinds i 0) ≡ pass kind → length fields - at < packed_size v kind → refuse 46 ≡ length_of v kinds fields
  unfolding onward
  ends_inside kind h e few =
      let short : length (drop at fields) < packed_size v kind = rw (length-drop at fields) few in
      sym (ap (λ p. onward p (longer end)) (cut_off v (get_or kinds i 0) (drop (i + 1) kinds) (drop at fields) kind e short)) ∙ this h

  -- a card in front adds its body's bytes
  behind : (p : Checked (List Card)) (c : Card) (size : ℕ) → length c.body ≡ size → onward p (longer (end + size)) ≡ onward (onward p (λ rest. pass (c ∷ rest))) (longer end)
  unfolding onward bodies_of
  behind (pass rest) c size e = ap pass (rw length-append (omega (arith, e)))
  behind (refuse k) c size e = refl

  pub walk_on : (kind : Kind) → i < length kinds → kind_of (get_or kinds i 0) ≡ pass kind → packed_size v kind ≤ length fields - at → Measuring v kinds fields (i + 1) (at + packed_size v kind) (end + size_of v kind)
  walk_on kind h e room =
      let s : ℕ = packed_size v kind in
      let here = drop at fields in
      let inside : s ≤ length here = rw (length-drop at fields) room in
      let long : length (body_from kind (take s here)) ≡ size_of v kind = length_body v kind (take s here) (length-take-le s here inside) in
      let rest = packed_cards v (drop (i + 1) kinds) (drop s here) in
      record {
        within = omega (arith, m.within, room);
        most = omega (arith, m.most, size_most v kind);
        same =
            ap (λ (l : List ℕ). onward (packed_cards v (drop (i + 1) kinds) l) (longer (end + size_of v kind))) (sym (drop-drop s at fields))
            ∙ behind rest (record { kind = kind; body = body_from kind (take s here) }) (size_of v kind) long
            ∙ sym (ap (λ p. onward p (longer end)) (and_card v (get_or kinds i 0) (drop (i + 1) kinds) here kind e inside))
            ∙ this h;
      }

  -- after the last one
  no_more : length kinds ≤ i → onward (packed_cards v [] (drop at fields)) (longer end) ≡ length_of v kinds fields
  no_more h = ap (λ (l : List ℕ). onward (packed_cards v l (drop at fields)) (longer end)) (sym (drop_of_length-le kinds h)) ∙ m.same

  pub some_over : length kinds ≤ i → (at ≡ length fields → ⊥) → refuse 46 ≡ length_of v kinds fields
  unfolding onward
  some_over h e = sym (ap (λ p. onward p (longer end)) (left_over v (drop at fields) (λ z. e (omega (arith, z, length-drop at fields, m.within))))) ∙ no_more h

  pub all_read : length kinds ≤ i → at ≡ length fields → pass end ≡ length_of v kinds fields
  unfolding onward bodies_of
  all_read h e =
      let ended : length (drop at fields) ≡ 0 = rw (length-drop at fields) (omega (arith, e)) in
      let whole : end + 0 ≡ end = omega arith in
      ap pass (sym whole) ∙ sym (ap (λ p. onward p (longer end)) (none_left v (drop at fields) ended)) ∙ no_more h
