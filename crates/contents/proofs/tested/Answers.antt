-- `contents::tested` meets its contract: each return is one way through the definition's row of tests.
use mathlib.Core.Path.{◌≡◌, refl, sym, ◌∙◌}
use borrow.Author.Tests.{le-leb, lt-leb}
use lib.Dec.{leb}
use lib.ListN.{length}
use Rattle.std.proofs.lemmas.Result.{err_from_is_err_and}
use Rattle.rows.specs.Rows.{must, onward, checked}
use Rattle.version.specs.Version.{version_of}
use Rattle.ruling.specs.declared.Reason.TheVariants as why
use Rattle.ruling.specs.Said.{reason_number}
use Rattle.contents.specs.Contents.{header_size, entry_at, most_cards, version_word, cards_from, deck_in}
use Rattle.contents.proofs.Stated.{or_refused}
use Rattle.contents.proofs.Opened.{with_version, counted_on}
use Rattle.contents.proofs.tested.Goals as goal
use Rattle.contents.proofs.tested.Goals.{After-ok_or, After-half-count}

pub returns-then-deck-lt-HEADER : goal.returns-then-deck-lt-HEADER
unfolding must onward deck_in
returns-then-deck-lt-HEADER c = rw (lt-leb header_size (length c.args.deck.now) c.if-deck-lt-HEADER.true) refl

-- what the deck's first word states
word : (c : After-ok_or) → version_of (version_word c.args.deck.now) ≡ checked reason_number c.ok_or.result
word c = rw (← c.half.ensures, ← c.named.ensures, c.ok_or.ensures.value) (or_refused reason_number why.OtherVersion c.named.result)

pub returns-in_err-version : goal.returns-in_err-version
unfolding must onward deck_in
returns-in_err-version c =
    let p = err_from_is_err_and c.from_residual.result c.from_residual.ensures.1 in
    rw (p.1, p.2, le-leb header_size (length c.args.deck.now) c.if-deck-lt-HEADER.false, word (goal.at.returns-in_err-version c).After-ok_or, c.in_err-version.was) refl

-- past the version, the row as it was found
counted : (c : After-half-count) → let deck = c.args.deck.now in let v = c.in_ok-version.version in let n = c.half-count.result in
    deck_in deck ≡ must (leb n most_cards) 32 (must (leb (entry_at n) (length deck)) 33 (with_version v (cards_from v deck n 0 (entry_at n))))
unfolding must onward deck_in
counted c = rw (le-leb header_size (length c.args.deck.now) c.if-deck-lt-HEADER.false, word (goal.at.After-half-count c).After-ok_or, c.in_ok-version.was, ← c.half-count.ensures) refl

pub returns-then-count-gt-MOST_CARDS : goal.returns-then-count-gt-MOST_CARDS
unfolding must onward
returns-then-count-gt-MOST_CARDS c = rw (counted (goal.at.returns-then-count-gt-MOST_CARDS c).After-half-count, lt-leb c.half-count.result most_cards c.if-count-gt-MOST_CARDS.true) refl

pub returns-then-deck-count : goal.returns-then-deck-count
unfolding must onward
returns-then-deck-count c = rw (counted (goal.at.returns-then-deck-count c).After-half-count, le-leb c.half-count.result most_cards c.if-count-gt-MOST_CARDS.false, lt-leb (entry_at c.half-count.result) (length c.args.deck.now) c.if-deck-count.true) refl

pub returns : goal.returns
unfolding must
returns c = let n = c.half-count.result in
    let deck = c.args.deck.now in
    let v = c.in_ok-version.version in
    c.entries_tested.ensures
    ∙ sym (counted_on v n (cards_from v deck n 0 (entry_at n)))
    ∙ sym (rw (counted (goal.at.returns c).After-half-count, le-leb n most_cards c.if-count-gt-MOST_CARDS.false, le-leb (entry_at n) (length deck) c.if-deck-count.false, ← c.half-count.ensures) refl)
