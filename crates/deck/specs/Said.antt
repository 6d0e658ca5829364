-- What the answers say, in the numbers and values of RULES, The deck. Definitions only.
use Rattle.std.specs.Prelude.{Option, Some, None, Result, Ok, Err}
use Rattle.rows.specs.Rows.{Checked, pass, refuse}
use Rattle.ruling.specs.declared.Reason.{Reason}
use Rattle.ruling.specs.Said.{reason_number}
use Rattle.deck.specs.declared.Totals.{Totals}
use Rattle.deck.specs.declared.Residuals as declared
use Rattle.deck.specs.Tally.{Residuals, absent, known}

-- mean and worst, or that both are absent
abbrev pub told : Option declared.Residuals → Residuals
told None = absent
told (Some r) = known r.mean r.worst

-- the three totals with mean and worst
abbrev pub tally_said : Totals × Option declared.Residuals → Totals × Residuals
tally_said t = (t.0, told t.1)

-- these, or the number of the refusal
abbrev pub said : Result (Totals × Option declared.Residuals) Reason → Checked (Totals × Residuals)
said (Ok t) = pass (tally_said t)
said (Err why) = refuse (reason_number why)
