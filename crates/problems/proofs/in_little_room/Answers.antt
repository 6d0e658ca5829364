-- `problems::in_little_room` meets its contract: the page has room for the deck, and its front is written into the buffer where it fits.
use mathlib.Core.Path.{◌≡◌, refl, sym, ap, ◌∙◌}
use mathlib.Core.List.{List}
use Prim.Native.Nat.{ℕ, ◌/◌, ◌≤◌}
use native.Mathlib.Omega.{arith}
use lib.ListN.{length, take, length-replicate}
use lib.Seq.{length-take-le}
use Rattle.pieces.specs.Pieces.{Put}
use Rattle.std.proofs.Common.{rules}
use Rattle.pieces.proofs.Puts.{renamed, front}
use Rattle.pieces.proofs.Pages.{pages, as_put, within}
use Rattle.version.specs.declared.Version.{Version}
use Rattle.card.specs.Fields.{given_size}
use Rattle.contents.specs.Contents.{most_cards, largest_deck}
use Rattle.layout.specs.Layout.{deck_of}
use Rattle.layout.proofs.Sizes.{deck_most}
use Rattle.layout.proofs.Writing.{no_room_writes, deck_writes}
use Rattle.problems.specs.Problems.{deck_from}
use Rattle.problems.proofs.Made.{as_many, sized}
use Rattle.problems.proofs.in_little_room.Goals as goal
use Rattle.problems.proofs.in_little_room.Goals.{After-fill}

-- the deck at the front of a page that has room for any
deck_there : (v : Version) (problems : List ℕ) {page after : List ℕ} {end : ℕ} → length problems / given_size v ≤ most_cards → largest_deck ≡ length page
    → Put page 0 (deck_of (deck_from v problems)) after end → (end ≡ length (deck_of (deck_from v problems))) × (take end after ≡ deck_of (deck_from v problems))
deck_there v problems h room p =
    let n : ℕ = length problems / given_size v in
    front p (omega (arith, deck_most (deck_from v problems) (omega (arith, as_many v n problems)) (sized v problems), room))

there : (c : After-fill) → (c.fill.new.page.at ≡ length (deck_of (deck_from c.args.version c.args.problems.now))) × (take c.fill.new.page.at c.fill.new.page.bytes.now ≡ deck_of (deck_from c.args.version c.args.problems.now))
there c = deck_there c.args.version c.args.problems.now c.requires (sym (length-replicate {A = ℕ} largest_deck 0)) (as_put _ (deck_of (deck_from c.args.version c.args.problems.now)) c.fill.ensures)

-- and in the bytes that the page lent, once they are given back
there_in : (c : After-fill) {out : List ℕ} → out ≡ c.fill.new.page.bytes.now → take c.fill.new.page.at out ≡ deck_of (deck_from c.args.version c.args.problems.now)
there_in c e = ap (take c.fill.new.page.at) e ∙ (there c).1

pub returns-then-buffer-end : goal.returns-then-buffer-end
returns-then-buffer-end c = let both = no_room_writes c.args.buffer.now refl (omega (arith, (there (goal.at.returns-then-buffer-end c).After-fill).0)) in record { result_value = both.0; buffer_after = both.1 }

pub slice_bounds-whole-end : goal.slice_bounds-whole-end
slice_bounds-whole-end c = within _ _ c.fill.ensures (search (rules, pages))

pub slice_bounds-put-end : goal.slice_bounds-put-end
slice_bounds-put-end c = sym (length-take-le _ _ (within _ _ c.fill.ensures (search (rules, pages))))

pub returns : goal.returns
returns c = let fill = (goal.at.returns c).After-fill in
    let put : Put c.args.buffer.now 0 (deck_of (deck_from c.args.version c.args.problems.now)) c.put.new.page.bytes.now c.put.new.page.at =
    renamed (there_in fill (search (rules, pages))) (as_put _ _ c.put.ensures) in
    let both = deck_writes refl (omega (arith, (there fill).0)) put in
    record { result_value = both.0; buffer_after = rw (← both.1) (search (rules, pages)) }
