-- The loop that writes the entries, turn by turn: the entries of the kinds that are left, written behind what stands, are the entries of all
-- that the numbers name.
use mathlib.Core.Path.{◌≡◌, refl, ap}
use mathlib.Core.List.{List, [], ◌++◌}
use Prim.Native.Nat.{ℕ, ◌+◌, ◌*◌, ◌≤◌, ◌<◌}
use native.Mathlib.Numerals.{add-one}
use native.Mathlib.Omega.{arith}
use lib.ListN.{length, drop, get_or, drop_of_length-le}
use lib.Seq.{drop-cons}
use Rattle.pieces.specs.declared.Page.{Page}
use Rattle.pieces.specs.Page.{written}
use Rattle.pieces.proofs.InPieces.{InPieces, nothing_yet, one_on, all_there}
use Rattle.rows.specs.Rows.{pass, refuse}
use Rattle.version.specs.declared.Version.{Version}
use Rattle.card.specs.declared.Kind.{Kind}
use Rattle.card.specs.Fields.{kind_of, size_of, largest_body}
use Rattle.card.proofs.Sizes.{size_most}
use Rattle.contents.specs.Contents.{entry_at}
use Rattle.layout.specs.Layout.{entry_for, entries_from, named_in}

pub record Entering (v : Version) (kinds : List ℕ) (start page : Page) (offset i : ℕ) : Type 0 where
  pub most : offset ≤ entry_at (length kinds) + largest_body * i
  pub pieces : InPieces start (entries_from v (entry_at (length kinds)) (named_in kinds)) page (entries_from v offset (named_in (drop i kinds)))

pub begin : (v : Version) (kinds : List ℕ) (page : Page) → page.at ≤ length page.bytes.now → Entering v kinds page page (entry_at (length kinds)) 0
begin v kinds page h = record { most = omega arith; pieces = nothing_yet (entries_from v (entry_at (length kinds)) (named_in kinds)) h }

module _ {v : Version} {kinds : List ℕ} {start page : Page} {offset i : ℕ} (s : Entering v kinds start page offset i) where
  -- while a number is left, its kind comes next
  next : (kind : Kind) → i < length kinds → kind_of (get_or kinds i 0) ≡ pass kind → entry_for v kind offset ++ entries_from v (offset + size_of v kind) (named_in (drop (i + 1) kinds)) ≡ entries_from v offset (named_in (drop i kinds))
  unfolding entries_from named_in
  next kind h e = rw (add-one i, drop-cons kinds i 0 h, e) refl

  -- an entry is written
  pub turn : (kind : Kind) {after : Page} → i < length kinds → kind_of (get_or kinds i 0) ≡ pass kind → after ≡ written page (entry_for v kind offset) → Entering v kinds start after (offset + size_of v kind) (i + 1)
  turn kind h e p = record { most = omega (arith, s.most, size_most v kind); pieces = one_on (entry_for v kind offset) s.pieces (next kind h e) p }

  -- no kind comes next: the number names none, or there is no number
  no_more : named_in (drop i kinds) ≡ [] → page ≡ written start (entries_from v (entry_at (length kinds)) (named_in kinds))
  unfolding entries_from
  no_more e = all_there s.pieces (ap (entries_from v offset) e)

  pub no_kind : (k : ℕ) → i < length kinds → kind_of (get_or kinds i 0) ≡ refuse k → page ≡ written start (entries_from v (entry_at (length kinds)) (named_in kinds))
  unfolding named_in
  no_kind k h e = no_more (rw (drop-cons kinds i 0 h, e) refl)

  pub entered : length kinds ≤ i → page ≡ written start (entries_from v (entry_at (length kinds)) (named_in kinds))
  unfolding named_in
  entered h = no_more (ap named_in (drop_of_length-le kinds h))
