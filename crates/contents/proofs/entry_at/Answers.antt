-- `contents::entry_at` meets its contract: each return is one way through the definition's row of tests.
use mathlib.Core.Path.{◌≡◌, refl}
use Prim.Native.Nat.{◌+◌}
use borrow.Author.Tests.{eq-eqb, ne_eqb, le-leb, lt-leb}
use lib.Dec.{eqb, leb}
use lib.ListN.{length}
use Rattle.std.proofs.lemmas.Result.{err_from_is_err_and}
use Rattle.rows.specs.Rows.{pass, must, onward, checked}
use Rattle.ruling.specs.declared.Reason.TheVariants as why
use Rattle.ruling.specs.Said.{reason_number}
use Rattle.contents.specs.Contents.{kind_at, offset_at, entry_in}
use Rattle.contents.proofs.Stated.{or_refused}
use Rattle.contents.proofs.entry_at.Goals as goal
use Rattle.contents.proofs.entry_at.Goals.{After-ok_or, After-half, After-half-2, Else-half-at}

-- what the entry's number names
named : (c : After-ok_or) → kind_at c.args.deck.now c.args.i ≡ checked reason_number c.ok_or.result
named c = rw (← c.kind_at.ensures, c.ok_or.ensures.value) (or_refused reason_number why.UnknownKind c.kind_at.result)

pub returns-in_err-kind : goal.returns-in_err-kind
unfolding onward entry_in
returns-in_err-kind c =
    let p = err_from_is_err_and c.from_residual.result c.from_residual.ensures.1 in
    rw (p.1, p.2, named (goal.at.returns-in_err-kind c).After-ok_or, c.in_err-kind.was) refl

-- past the first test, the row as it was found
known : (c : After-half) → let from = c.args in
    entry_in from.version from.deck.now from.i from.at ≡ must (eqb c.half.result c.size-size.result) 35 (must (eqb (offset_at from.deck.now from.i) from.at) 36 (must (leb (from.at + c.size-size.result) (length from.deck.now)) 37 (pass c.in_ok-kind.kind)))
unfolding onward entry_in
known c = rw (named (goal.at.After-half c).After-ok_or, c.in_ok-kind.was, ← c.half.ensures, ← c.size-size.ensures) refl

pub returns-then-half-size : goal.returns-then-half-size
unfolding must
returns-then-half-size c = rw (known (goal.at.returns-then-half-size c).After-half, ne_eqb c.half.result c.size-size.result c.if-half-size.true) refl

-- past the second
right_length : (c : After-half-2) → let from = c.args in
    entry_in from.version from.deck.now from.i from.at ≡ must (eqb c.half-2.result from.at) 36 (must (leb (from.at + c.size-size.result) (length from.deck.now)) 37 (pass c.in_ok-kind.kind))
unfolding must
right_length c = rw (known (goal.at.After-half-2 c).After-half, eq-eqb c.half.result c.size-size.result c.if-half-size.false, ← c.half-2.ensures) refl

pub returns-then-half-at : goal.returns-then-half-at
unfolding must
returns-then-half-at c = rw (right_length (goal.at.returns-then-half-at c).After-half-2, ne_eqb c.half-2.result c.args.at c.if-half-at.true) refl

-- past the third: the last body ended where a word of four bytes says
right_offset : (c : Else-half-at) → let from = c.args in
    entry_in from.version from.deck.now from.i from.at ≡ must (leb (from.at + c.size-size.result) (length from.deck.now)) 37 (pass c.in_ok-kind.kind)
unfolding must
right_offset c = rw (right_length (goal.at.Else-half-at c).After-half-2, eq-eqb c.half-2.result c.args.at c.if-half-at.false) refl

pub returns-then-deck-at : goal.returns-then-deck-at
unfolding must
returns-then-deck-at c = let from = c.args in
    rw (right_offset (goal.at.returns-then-deck-at c).Else-half-at, lt-leb (from.at + c.size-size.result) (length from.deck.now) c.if-deck-at.true) refl

pub returns : goal.returns
unfolding must
returns c = let from = c.args in
    rw (right_offset (goal.at.returns c).Else-half-at, le-leb (from.at + c.size-size.result) (length from.deck.now) c.if-deck-at.false) refl
