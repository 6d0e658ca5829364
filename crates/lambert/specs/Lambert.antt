-- The required velocity: the tests before the first guess, the search for the z whose time is t, and the velocity that it comes to. STEPS,
-- Required velocity. Definitions only.
use Rattle.std.specs.Prelude.{Float}
use Rattle.rows.specs.Rows.{Checked, pass, refuse}
use Rattle.search.specs.Answers.{refused, answer_from}
use Rattle.arc.specs.declared.Transfer.{Transfer}
use Rattle.arc.specs.declared.Scaled.{Scaled}
use Rattle.arc.specs.Arc.{time_at, velocity_at}
use Rattle.arc_entry.specs.ArcEntry.{entry_of}
use Rattle.lambert.specs.Said.{Said}

-- t, the wanted time
abbrev pub wanted_time : Scaled → Float
wanted_time o = o.t

-- the answer to a transfer
unfoldable pub lambert_of : Transfer → Said
lambert_of q = answer_from time_at wanted_time velocity_at q.limit (entry_of q)

-- and to one that was read from bytes: where its way is none, the refusal of that, with the count 0
abbrev pub answer_to : Checked Transfer → Said
answer_to (pass q) = lambert_of q
answer_to (refuse k) = refused k 0
