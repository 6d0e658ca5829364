-- `tally::Running::closed` meets its contract: the residuals are absent, or known where a card was solved.
use mathlib.Core.Path.{refl}
use borrow.Author.Tests.{eq-eqb, ne_eqb}
use Rattle.deck.specs.Tally.{residuals_of}
use Rattle.deck.proofs.tally.Running.closed.Goals as goal

pub returns-then-self-eq0 : goal.returns-then-self-eq0
unfolding residuals_of
returns-then-self-eq0 c = rw (eq-eqb c.args.self.solved 0 c.if-self-eq0.true) refl

pub returns : goal.returns
unfolding residuals_of
returns c = rw (c.mean-mean.ensures, ne_eqb c.args.self.solved 0 c.if-self-eq0.false) refl
