-- `predicted::answered` meets its contract: the words and the limit that were read are the bytes, and the outcome is Kepler's.
use mathlib.Core.Path.{ap, ap₂, ◌∙◌}
use mathlib.Core.List.{◌++◌}
use native.Mathlib.Omega.{arith}
use Rattle.spelled.specs.Spelled.{bytes_of}
use Rattle.words.specs.Words.{words_bytes}
use Rattle.conic.specs.declared.Problem.{Problem}
use Rattle.kepler.specs.Kepler.{kepler_of}
use Rattle.predicted.proofs.Given.{given_kept}
use Rattle.predicted.proofs.answered.Goals as goal

pub returns : goal.returns
returns c = let kept = given_kept c.args.given.now c.requires (λ i. omega (arith, c.shared_slice_known-1.given i)) in
    let words = ap words_bytes c.words_of.ensures in
    let limit = ap (λ (p : Problem). bytes_of 4 p.limit) c.problem-problem.ensures in
    record { result_value = ap₂ ◌++◌ words limit ∙ kept; outcome_value = c.kepler.ensures ∙ ap kepler_of c.problem-problem.ensures }
