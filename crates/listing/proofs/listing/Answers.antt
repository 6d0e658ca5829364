-- `listing::listing` meets its contract: there is room for any listing, so the part that is handed over is the listing.
use mathlib.Core.Path.{sym}
use native.Mathlib.Nat.{le_trans, le_of_eq}
use lib.Seq.{length-take-le}
use Rattle.std.proofs.Common.{rules}
use Rattle.pieces.proofs.Puts.{handed_on}
use Rattle.pieces.proofs.Pages.{pages, within, given_back}
use Rattle.listing.proofs.Longest.{longest}
use Rattle.listing.proofs.listing.Goals as goal

pub slice_bounds-whole-end : goal.slice_bounds-whole-end
slice_bounds-whole-end c = within _ _ c.write.ensures (search (rules, pages))

pub slice_bounds-hand-end : goal.slice_bounds-hand-end
slice_bounds-hand-end c = sym (length-take-le _ _ (within _ _ c.write.ensures (search (rules, pages))))

pub returns : goal.returns
returns c = let fits = le_trans (longest c.args.deck.now) (le_of_eq c.blank-whole.ensures) in
    let both = handed_on c.args.out.now (given_back _ _ c.write.ensures (search (rules, pages))) fits (c.hand.ensures.value, c.hand.ensures.out_after) in record { value = both.0; out_after = both.1 }
