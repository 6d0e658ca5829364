-- What copying comes to: the refusal of the deck, since the two lists have room for any deck; or what the writer makes of the kinds and the fields
-- that stand in them, which are the deck's cards with their spares cleared.
use mathlib.Core.Path.{◌≡◌, refl, sym, ap, ap₂, subst, ◌∙◌}
use mathlib.Core.List.{List}
use Prim.Native.Nat.{ℕ, ◌*◌, ◌≤◌}
use native.Mathlib.Omega.{arith}
use lib.ListN.{length, take}
use Rattle.pieces.proofs.Puts.{InFront}
use Rattle.rows.specs.Rows.{pass, refuse, onward}
use Rattle.version.specs.declared.Version.{Version}
use Rattle.version.specs.Version.{version_number, form_number}
use Rattle.card.specs.Fields.{largest_fields}
use Rattle.contents.specs.Contents.{Deck, most_cards, deck_in}
use Rattle.contents.proofs.Opened.{with_version}
use Rattle.layout.specs.Packed.{finished_deck}
use Rattle.layout.proofs.Packed.{length_kinds, packed_back}
use Rattle.layout.proofs.WriteBack.{cards_sized}
use Rattle.layout.proofs.Writing.{few_enough, finished_in}
use Rattle.apart.specs.Apart.{kinds_taken, fields_taken, apart_of, sizes_of, with_taken}
use Rattle.apart.proofs.Taking.{refused, taken_apart, room_for_any, in_front}
use Rattle.copier.specs.Copy.{cleared_deck, copy_of}

pub copy_refused : (deck : List ℕ) {places room k : ℕ} → refuse k ≡ sizes_of (apart_of deck places room) → most_cards ≤ places → largest_fields * most_cards ≤ room → copy_of deck ≡ refuse k
unfolding copy_of onward
copy_refused deck {places} {room} e p r = rw (sym (room_for_any deck places room p r) ∙ refused deck places room e) refl

pub copy_passes : (deck : List ℕ) (d : Deck) → deck_in deck ≡ pass d → copy_of deck ≡ pass (cleared_deck d)
unfolding copy_of onward
copy_passes deck d e = rw e refl

-- the cards of an accepted deck, written in its version from their kinds and fields
copy_is : (deck : List ℕ) (d : Deck) → deck_in deck ≡ pass d → finished_deck (version_number d.version) (form_number d.version) (kinds_taken d) (fields_taken d) ≡ copy_of deck
unfolding onward
copy_is deck d e =
    let v = d.version in
    let sized = cards_sized deck d e in
    finished_in v (kinds_taken d) (fields_taken d)
    ∙ few_enough v (kinds_taken d) (fields_taken d) (omega (arith, length_kinds d.cards, sized.0))
    ∙ ap (with_version v) (packed_back v d.cards sized.1)
    ∙ sym (copy_passes deck d e)

-- what stands at the front of the two lists
pub record Listed (deck kinds fields : List ℕ) (v : Version) (count size : ℕ) : Type 0 where
  is : Deck
  pub kinds_are : InFront (kinds_taken is) kinds count
  pub fields_are : InFront (fields_taken is) fields size
  pub written : finished_deck (version_number v) (form_number v) (take count kinds) (take size fields) ≡ copy_of deck

pub listed : (deck places room : List ℕ) {kinds fields : List ℕ} {v : Version} {count size : ℕ} → pass (v, count, size) ≡ sizes_of (apart_of deck (length places) (length room))
    → kinds ≡ with_taken kinds_taken (apart_of deck (length places) (length room)) places → fields ≡ with_taken fields_taken (apart_of deck (length places) (length room)) room → Listed deck kinds fields v count size
listed deck places room {kinds} {fields} {v} {count} {size} s k f =
    let t = taken_apart deck (length places) (length room) s in
    let kinds_are = in_front kinds_taken places t.taken k (length_kinds t.is.cards ∙ t.as_many) in
    let fields_are = in_front fields_taken room t.taken f t.as_long in
    let written = subst (λ (w : Version). finished_deck (version_number w) (form_number w) (take count kinds) (take size fields) ≡ copy_of deck) t.in_version (ap₂ (finished_deck (version_number t.is.version) (form_number t.is.version)) kinds_are.is fields_are.is ∙ copy_is deck t.is t.fits.are) in
    record { is = t.is; kinds_are = kinds_are; fields_are = fields_are; written = written }
