-- What the answer of a check says can be undone, since the number of a reason names the reason: `said` is one to one, and the contract of
-- `check` has one answer.
use mathlib.Core.Path.{◌≡◌, refl, ap}
use Rattle.std.specs.Prelude.{Option, Some, None, Result, Ok, Err}
use Rattle.coincidence.specs.Coincidence.{OneToOne}
use Rattle.coincidence.proofs.Laws.{undone}
use Rattle.rows.specs.Rows.{Checked, pass, refuse}
use Rattle.ruling.specs.declared.Reason.{Reason}
use Rattle.ruling.proofs.Reasons.{reason_of, reason_is}
use Rattle.deck.specs.declared.Totals.{Totals}
use Rattle.deck.specs.declared.Residuals as declared
use Rattle.deck.specs.Tally.{Residuals, absent, known}
use Rattle.deck.specs.Said.{told, said}

abbrev untold : Residuals → Option declared.Residuals
untold absent = None
untold (known mean worst) = Some (record { mean = mean; worst = worst })

untold_is : (r : Option declared.Residuals) → untold (told r) ≡ r
untold_is None = refl
untold_is (Some r) = refl

abbrev unsaid : Checked (Totals × Residuals) → Result (Totals × Option declared.Residuals) Reason
unsaid (pass (totals, r)) = Ok (totals, untold r)
unsaid (refuse k) = Err (reason_of k)

unsaid_is : (a : Result (Totals × Option declared.Residuals) Reason) → unsaid (said a) ≡ a
unsaid_is (Ok (totals, r)) = ap (λ (o : Option declared.Residuals). Ok (totals, o)) (untold_is r)
unsaid_is (Err why) = ap Err (reason_is why)

pub said_once : OneToOne said
said_once = undone said unsaid unsaid_is
