-- `check_deck::main` writes the listing of what it read: the page has room for any listing, so its front is the listing.
use Rattle.std.proofs.Common.{refl, take, replicate}
use Rattle.pieces.proofs.Puts.{InFront}
use Rattle.listing.specs.Listing.{listing_of, longest_listing}
use Rattle.listing.proofs.Longest.{in_page}
use Rattle.check_deck.proofs.main.Goals as goal
use Rattle.check_deck.proofs.main.Goals.{After-listing-end}

-- the part of the page up to where the listing ends
made : (c : After-listing-end) → InFront (listing_of (take c.read-got.result c.read-got.new.space)) c.listing-end.new.out c.listing-end.result
made c = in_page (take c.read-got.result c.read-got.new.space) (replicate longest_listing 0) refl c.listing-end.ensures.value c.listing-end.ensures.out_after

pub slice_bounds-page-end : goal.slice_bounds-page-end
slice_bounds-page-end c = (made (goal.at.slice_bounds-page-end c).After-listing-end).within

pub slice_bounds-write-end-2 : goal.slice_bounds-write-end-2
slice_bounds-write-end-2 c = (made (goal.at.slice_bounds-write-end-2 c).After-listing-end).long

pub write-requires : goal.write-requires
write-requires c = (made (goal.at.write-requires c).After-listing-end).is
