-- `writer::put` meets its contract: each return is one way that writing goes.
use mathlib.Core.Path.{◌≡◌, sym, subst, ◌∙◌}
use mathlib.Core.List.{List}
use Prim.Native.Nat.{ℕ}
use native.Mathlib.Omega.{arith}
use lib.ListN.{length}
use Rattle.std.proofs.Common.{rules}
use Rattle.pieces.proofs.Pages.{pages, as_put}
use Rattle.rows.specs.Rows.{pass}
use Rattle.rows.proofs.Laws.{row_refused, rows_passed, pass_once}
use Rattle.version.specs.declared.Version.{Version}
use Rattle.contents.specs.Contents.{Deck, Passes}
use Rattle.layout.specs.Layout.{deck_of}
use Rattle.layout.specs.Packed.{packed_deck}
use Rattle.layout.proofs.Refusals.{passed_on}
use Rattle.layout.proofs.Writing.{too_many, packed_means, refused_writes, no_room_writes, deck_writes}
use Rattle.writer.proofs.Measuring.{length_of}
use Rattle.writer.proofs.put.Goals as goal

-- what was measured
record Measured (v : Version) (kinds fields : List ℕ) (size : ℕ) : Type 0 where
  deck : Deck
  packed : packed_deck v kinds fields ≡ pass deck
  long : length (deck_of deck) ≡ size

passed : (v : Version) (kinds fields : List ℕ) {size : ℕ} → pass size ≡ length_of v kinds fields → Measured v kinds fields size
passed v kinds fields e =
    let P = rows_passed (packed_deck v kinds fields) (λ (d : Deck). pass (length (deck_of d))) (sym e) in
    record { deck = P.0; packed = P.1; long = pass_once P.2 }

pub returns-then-kinds-gt-MOST_CARDS : goal.returns-then-kinds-gt-MOST_CARDS
returns-then-kinds-gt-MOST_CARDS c = let both = refused_writes c.args.buffer.now (too_many c.args.version c.args.kinds.now c.args.fields.now (omega arith)) in record { result_value = both.0; buffer_after = both.1 }

pub returns-in_err-size : goal.returns-in_err-size
returns-in_err-size c = let both = refused_writes c.args.buffer.now (row_refused (packed_deck c.args.version c.args.kinds.now c.args.fields.now) (λ (d : Deck). length (deck_of d)) (sym c.in_err-size.ensures)) in
    record { result_value = passed_on c.from_residual.result _ c.from_residual.ensures.1 ∙ both.0; buffer_after = both.1 }

pub returns-then-buffer-size : goal.returns-then-buffer-size
returns-then-buffer-size c = let m = passed c.args.version c.args.kinds.now c.args.fields.now c.in_ok-size.ensures in let both = no_room_writes c.args.buffer.now m.packed (omega (arith, m.long)) in record { result_value = both.0; buffer_after = both.1 }

pub fill-requires : goal.fill-requires
fill-requires c = let m = passed c.args.version c.args.kinds.now c.args.fields.now c.in_ok-size.ensures in
    (omega arith, subst Passes (sym (packed_means c.args.version c.args.kinds.now c.args.fields.now m.packed).2) tt)

pub returns : goal.returns
returns c = let m = passed c.args.version c.args.kinds.now c.args.fields.now c.in_ok-size.ensures in
    let put = c.fill.ensures m.deck m.packed in
    let both = deck_writes m.packed (omega (arith, m.long)) (as_put _ (deck_of m.deck) put) in
    record { result_value = both.0; buffer_after = rw (← both.1) (search (rules, pages, put)) }
