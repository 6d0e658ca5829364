-- Kepler: the tests before the first guess, the search for the x whose time is t, and the state that it unfolds to. RULES, The search.
-- Definitions only.
use Rattle.std.specs.Prelude.{Float}
use Rattle.search.specs.Answers.{answer_from}
use Rattle.conic.specs.declared.Scaled.{Scaled}
use Rattle.conic.specs.declared.Problem.{Problem}
use Rattle.conic.specs.Said.{Said}
use Rattle.conic.specs.TimeAndRatio.{time_at}
use Rattle.conic.specs.Unfolding.{arrival_at}
use Rattle.entry.specs.Entry.{entry_of}

-- t, the wanted time
abbrev pub wanted_time : Scaled → Float
wanted_time o = o.t

unfoldable pub kepler_of : Problem → Said
kepler_of p = answer_from time_at wanted_time arrival_at p.limit (entry_of p)
