-- What lasts over the turns of `listing::card_lines`.
use Rattle.listing.proofs.Showing.{Showing}
use Rattle.listing.proofs.card_lines.Given as goal

abbrev pub invariant-loop-i : goal.invariant-loop-i
invariant-loop-i l = Showing l.version l.deck l.count l.initial.page l.page l.i l.at
