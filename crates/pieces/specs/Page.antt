-- A lent buffer, and where the next piece begins in it: what a piece written makes of it. Definitions only.
use Rattle.std.specs.Prelude.{ℕ, List}
use Rattle.pieces.specs.declared.Page.{Page}
use Rattle.pieces.specs.Pieces.{put_in, end_in}

-- a page with a piece written into it: the reference stays, what it lends has the piece, and the next one begins where it ends
unfoldable pub written : Page → List ℕ → Page
written page piece = record page { bytes = record page.bytes { now = put_in page.bytes.now page.at piece }; at = end_in page.bytes.now page.at piece }
