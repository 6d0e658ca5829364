-- What writing cards into a buffer comes to: a refusal, which leaves the buffer as it was, or the deck at its front.
use mathlib.Core.Path.{◌≡◌, refl, sym, ap, subst, ◌∙◌}
use mathlib.Core.List.{List}
use Prim.Native.Nat.{ℕ, ◌≤◌, ◌<◌}
use borrow.Author.Tests.{leb-true, le-leb, lt-leb}
use lib.Dec.{leb}
use lib.ListN.{length}
use Rattle.pieces.specs.Pieces.{Put}
use Rattle.pieces.proofs.Puts.{front, stands}
use Rattle.rows.specs.Rows.{Checked, pass, refuse, must, onward}
use Rattle.rows.proofs.Laws.{pass_once, test_passed, rows_passed}
use Rattle.version.specs.declared.Version.{Version}
use Rattle.version.specs.Version.{version_number, form_number, version_given}
use Rattle.version.proofs.Sizes.{version_of_number}
use Rattle.version.proofs.Forms.{its_form}
use Rattle.contents.specs.Contents.{Deck, most_cards}
use Rattle.contents.proofs.Opened.{with_version}
use Rattle.layout.specs.Layout.{deck_of}
use Rattle.layout.specs.Packed.{packed_cards, packed_deck, finished_deck}
use Rattle.layout.specs.Written.{deck_for, length_for, buffer_after}

-- more than 256 cards, or as many as may be
pub too_many : (v : Version) (kinds fields : List ℕ) → most_cards < length kinds → packed_deck v kinds fields ≡ refuse 40
unfolding packed_deck must
too_many v kinds fields h = rw (lt-leb (length kinds) most_cards h) refl

pub few_enough : (v : Version) (kinds fields : List ℕ) → length kinds ≤ most_cards → packed_deck v kinds fields ≡ with_version v (packed_cards v kinds fields)
unfolding packed_deck must
few_enough v kinds fields h = rw (le-leb (length kinds) most_cards h) refl

pub packed_means : (v : Version) (kinds fields : List ℕ) {d : Deck} → packed_deck v kinds fields ≡ pass d → (length kinds ≤ most_cards) × (d.version ≡ v) × (packed_cards v kinds fields ≡ pass d.cards)
unfolding packed_deck
packed_means v kinds fields {d} h =
    let T = test_passed (leb (length kinds) most_cards) 40 (with_version v (packed_cards v kinds fields)) h in
    let C = rows_passed (packed_cards v kinds fields) (λ cards. pass (record { version = v; cards = cards })) T.1 in
    let is : ◌≡◌ {A = Deck} (record { version = v; cards = C.0 }) d = pass_once C.2 in
    (leb-true (length kinds) most_cards T.0, sym (ap (λ (e : Deck). e.version) is), C.1 ∙ ap (λ (e : Deck). pass e.cards) is)

-- 42 comes first: where no version is given, the cards may be any
pub none_finished : (number form : ℕ) (kinds fields : List ℕ) → version_given number form ≡ refuse 42 → finished_deck number form kinds fields ≡ refuse 42
unfolding finished_deck onward
none_finished number form kinds fields e = rw e refl

pub finished_means : (number form : ℕ) (kinds fields : List ℕ) {d : Deck} → finished_deck number form kinds fields ≡ pass d → (length kinds ≤ most_cards) × (version_given number form ≡ pass d.version) × (packed_cards d.version kinds fields ≡ pass d.cards)
unfolding finished_deck
finished_means number form kinds fields {d} h =
    let R = rows_passed (version_given number form) (λ v. packed_deck v kinds fields) h in
    let m = packed_means R.0 kinds fields R.2 in
    (m.0, R.1 ∙ ap pass (sym m.1), subst (λ (v : Version). packed_cards v kinds fields ≡ pass d.cards) (sym m.1) m.2)

-- in a version, with what has its form, no test of these two refuses
pub given_in_lem : (v : Version) → version_given (version_number v) (form_number v) ≡ pass v
given_in_lem v = its_form (version_number v) (form_number v) v (version_of_number v) refl

pub finished_in : (v : Version) (kinds fields : List ℕ) → finished_deck (version_number v) (form_number v) kinds fields ≡ packed_deck v kinds fields
unfolding finished_deck onward
finished_in v kinds fields = rw (given_in_lem v) refl

-- an answer, and the buffer with it
abbrev pub Gives : Checked Deck → (buffer : List ℕ) → Checked ℕ → (after : List ℕ) → Type 0
Gives m buffer answer after = (answer ≡ length_for m (length buffer)) × (after ≡ buffer_after m buffer)

pub refused_writes : {m : Checked Deck} {k : ℕ} (buffer : List ℕ) → m ≡ refuse k → Gives m buffer (refuse k) buffer
unfolding length_for buffer_after deck_for onward
refused_writes buffer e = rw e (refl, refl)

pub no_room_writes : {m : Checked Deck} {d : Deck} (buffer : List ℕ) → m ≡ pass d → length buffer < length (deck_of d) → Gives m buffer (refuse 41) buffer
unfolding length_for buffer_after deck_for onward must
no_room_writes {d = d} buffer e h = rw (e, lt-leb (length (deck_of d)) (length buffer) h) (refl, refl)

pub deck_writes : {m : Checked Deck} {d : Deck} {buffer after : List ℕ} {end : ℕ} → m ≡ pass d → length (deck_of d) ≤ length buffer → Put buffer 0 (deck_of d) after end
    → Gives m buffer (pass end) after
unfolding length_for buffer_after deck_for onward must
deck_writes {d = d} {buffer = buffer} e h p = rw (e, le-leb (length (deck_of d)) (length buffer) h) (ap pass (front p h).0, stands p h)

-- where no version is given nothing is written, and else what goes into a deck of that version
pub no_version_writes : (number form : ℕ) (rest : Version → Checked Deck) (buffer : List ℕ) {k : ℕ} → version_given number form ≡ refuse k → Gives (onward (version_given number form) rest) buffer (refuse k) buffer
unfolding onward
no_version_writes number form rest buffer e = refused_writes buffer (rw e refl)

pub version_writes : (number form : ℕ) (rest : Version → Checked Deck) (buffer : List ℕ) {after : List ℕ} {answer : Checked ℕ} {v : Version} → version_given number form ≡ pass v → Gives (rest v) buffer answer after
    → Gives (onward (version_given number form) rest) buffer answer after
unfolding onward
version_writes number form rest buffer e g = rw e g

-- a deck that is written has room
pub has_room : (m : Checked Deck) (room : ℕ) (deck : List ℕ) → deck_for m room ≡ pass deck → length deck ≤ room
unfolding deck_for
has_room m room deck h =
    let P = rows_passed m _ h in
    let T = test_passed (leb (length (deck_of P.0)) room) 41 (pass (deck_of P.0)) P.2 in
    rw (pass_once T.1) at (leb-true (length (deck_of P.0)) room T.0)
