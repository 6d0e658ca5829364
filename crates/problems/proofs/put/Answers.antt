-- `problems::put` meets its contract: what is refused is one row of the definition, and else the deck is written into the buffer itself, where
-- that has room for as many of the largest cards, or by way of a page.
use mathlib.Core.Path.{◌≡◌, refl, sym, ap, ◌∙◌}
use Prim.Native.Nat.{ℕ, ◌/◌, ◌%◌, ◌+◌, ◌*◌, ◌≤◌}
use native.Mathlib.Omega.{arith}
use lib.ListN.{length}
use Rattle.std.proofs.Common.{rules}
use Rattle.pieces.proofs.Pages.{pages, as_put}
use Rattle.rows.specs.Rows.{pass}
use Rattle.card.specs.Fields.{largest_body, given_size}
use Rattle.contents.specs.Contents.{header_size, entry_size, most_cards}
use Rattle.layout.specs.Layout.{deck_of}
use Rattle.layout.specs.Written.{length_for, buffer_after}
use Rattle.layout.proofs.Sizes.{deck_within}
use Rattle.layout.proofs.Writing.{refused_writes, deck_writes}
use Rattle.problems.specs.Problems.{deck_from, predicted_deck}
use Rattle.problems.proofs.Made.{as_many, sized, too_many, ends_inside, all_whole}
use Rattle.problems.proofs.put.Goals as goal
use Rattle.problems.proofs.put.Goals.{After-given_size-size, Else-problems-size-ne0}

-- how many problems there are, and what is left over
count_is : (c : After-given_size-size) → length c.args.problems.now / c.given_size-size.result ≡ length c.args.problems.now / given_size c.args.version
count_is c = ap (λ (w : ℕ). length c.args.problems.now / w) c.given_size-size.ensures

over_is : (c : After-given_size-size) → length c.args.problems.now % c.given_size-size.result ≡ length c.args.problems.now % given_size c.args.version
over_is c = ap (λ (w : ℕ). length c.args.problems.now % w) c.given_size-size.ensures

pub returns-then-count-gt-MOST_CARDS : goal.returns-then-count-gt-MOST_CARDS
returns-then-count-gt-MOST_CARDS c = let from = c.args in let both = refused_writes from.buffer.now (too_many from.version from.problems.now (omega (arith, count_is (goal.at.returns-then-count-gt-MOST_CARDS c).After-given_size-size))) in record { result_value = both.0; buffer_after = both.1 }

pub returns-then-problems-size-ne0 : goal.returns-then-problems-size-ne0
returns-then-problems-size-ne0 c = let from = c.args in let both = refused_writes from.buffer.now (ends_inside from.version from.problems.now (omega (arith, count_is (goal.at.returns-then-problems-size-ne0 c).After-given_size-size)) (λ e. c.if-problems-size-ne0.true (over_is (goal.at.returns-then-problems-size-ne0 c).After-given_size-size ∙ e))) in record { result_value = both.0; buffer_after = both.1 }

-- problems that are whole
few : (c : Else-problems-size-ne0) → length c.args.problems.now / given_size c.args.version ≤ most_cards
few c = omega (arith, count_is (goal.at.Else-problems-size-ne0 c).After-given_size-size)

whole : (c : Else-problems-size-ne0) → predicted_deck c.args.version c.args.problems.now ≡ pass (deck_from c.args.version c.args.problems.now)
whole c = all_whole c.args.version c.args.problems.now (few c) (sym (over_is (goal.at.Else-problems-size-ne0 c).After-given_size-size) ∙ c.if-problems-size-ne0.false)

pub in_little_room-requires : goal.in_little_room-requires
in_little_room-requires c = few (goal.at.in_little_room-requires c).Else-problems-size-ne0

pub fill-requires : goal.fill-requires
fill-requires c = (few (goal.at.fill-requires c).Else-problems-size-ne0, (refl, omega (arith, count_is (goal.at.fill-requires c).After-given_size-size, c.if-buffer-most.false)))

pub returns-then-buffer-most : goal.returns-then-buffer-most
returns-then-buffer-most c = let from = c.args in
    let same = sym (whole (goal.at.returns-then-buffer-most c).Else-problems-size-ne0) in
    let w = c.in_little_room.ensures in
    record { result_value = w.result_value ∙ ap (λ m. length_for m (length from.buffer.now)) same; buffer_after = w.buffer_after ∙ ap (λ m. buffer_after m from.buffer.now) same }

pub returns : goal.returns
returns c = let from = c.args in
    let d = deck_from from.version from.problems.now in
    let n : ℕ = length from.problems.now / given_size from.version in
    let room : header_size + n * (entry_size + largest_body) ≤ length from.buffer.now = omega (arith, count_is (goal.at.returns c).After-given_size-size, c.if-buffer-most.false) in
    let fits : length (deck_of d) ≤ length from.buffer.now = omega (arith, deck_within d (sized from.version from.problems.now), as_many from.version n from.problems.now, room) in
    let put = c.fill.ensures in
    let both = deck_writes (whole (goal.at.returns c).Else-problems-size-ne0) fits (as_put _ (deck_of d) put) in
    record { result_value = both.0; buffer_after = rw (← both.1) (search (rules, pages, put)) }

pub nonzero_div-count : goal.nonzero_div-count
nonzero_div-count c = omega (arith, c.given_size-size.ensures)

pub nonzero_rem-problems : goal.nonzero_rem-problems
nonzero_rem-problems c = omega (arith, c.given_size-size.ensures)

pub overflow_mul-most : goal.overflow_mul-most
overflow_mul-most c = omega (arith, few (goal.at.overflow_mul-most c).Else-problems-size-ne0, count_is (goal.at.overflow_mul-most c).After-given_size-size)

pub overflow_add-most-2 : goal.overflow_add-most-2
overflow_add-most-2 c = omega (arith, few (goal.at.overflow_add-most-2 c).Else-problems-size-ne0, count_is (goal.at.overflow_add-most-2 c).After-given_size-size)
