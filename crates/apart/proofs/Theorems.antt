-- Taking apart what was written gives the same version and cards, with the kinds and the fields that they were written from. And an answer of
-- `take` says one thing, since the number of a reason names the reason, so its contract has one answer.
use mathlib.Core.Path.{◌≡◌, ap}
use mathlib.Core.List.{List}
use Prim.Native.Nat.{ℕ, ◌≤◌}
use native.Mathlib.Omega.{arith}
use lib.ListN.{length}
use Rattle.coincidence.specs.Coincidence.{OneToOne}
use Rattle.rows.specs.Rows.{pass, checked}
use Rattle.rows.proofs.Laws.{checked_once}
use Rattle.ruling.specs.Said.{reason_number}
use Rattle.ruling.proofs.Reasons.{reason_of, reason_is}
use Rattle.version.specs.declared.Version.{Version}
use Rattle.version.specs.Version.{version_given}
use Rattle.contents.specs.Contents.{Deck}
use Rattle.layout.specs.Layout.{deck_of}
use Rattle.layout.specs.Packed.{finished_deck}
use Rattle.layout.proofs.Packed.{as_many, packed_sized, same_fields}
use Rattle.layout.proofs.ReadBack.{read_back}
use Rattle.layout.proofs.Writing.{finished_means}
use Rattle.apart.specs.Apart.{kinds_taken, fields_taken, apart_of}
use Rattle.apart.proofs.Taking.{Fits, apart_passes}

pub taken_back : (number form : ℕ) (kinds fields : List ℕ) (d : Deck) → finished_deck number form kinds fields ≡ pass d → (places room : ℕ) → length kinds ≤ places → length fields ≤ room
    → (apart_of (deck_of d) places room ≡ pass d) × (version_given number form ≡ pass d.version) × (kinds_taken d ≡ kinds) × (fields_taken d ≡ fields)
taken_back number form kinds fields d h places room enough more =
    let F = finished_means number form kinds fields h in
    let v = d.version in
    let many = as_many v kinds fields d.cards F.2 in
    let same = same_fields v kinds fields d.cards F.2 in
    let fits : Fits (deck_of d) places room d = record {
      are = read_back d (omega (arith, many, F.0)) (packed_sized v kinds fields d.cards F.2);
      places_enough = omega (arith, many);
      room_enough = omega (arith, ap length same.1);
    } in
    (apart_passes (deck_of d) places room fits, F.1, same.0, same.1)

pub said_once : OneToOne (checked {A = Version × ℕ × ℕ} reason_number)
said_once = checked_once reason_number reason_of reason_is
