-- What a function answers that passes a refusal on with `?`, or gives an Option its reason: the refusal that it met, and what the Option says.
use mathlib.Core.Path.{◌≡◌, sym, ap, ◌∙◌}
use Rattle.std.specs.Prelude.{Option, Result, Ok, Err, IsErrAnd}
use Rattle.std.specs.Option.{ok_or}
use Rattle.rows.specs.Rows.{Checked, refuse, stated, checked}
use Rattle.contents.proofs.Stated.{or_refused}
use Rattle.ruling.specs.declared.Reason.{Reason}
use Rattle.ruling.specs.Said.{reason_number}

pub with_reason : {A : Type 0} {row : Checked A} {answer : Result A Reason} (o : Option A) (why : Reason) → answer ≡ ok_or o why → stated (reason_number why) o ≡ row → checked reason_number answer ≡ row
with_reason o why e h = ap (checked reason_number) e ∙ sym (or_refused reason_number why o) ∙ h

pub passed_on : {A : Type 0} (answer : Result A Reason) (why : Reason) → IsErrAnd answer (λ e. e ≡ why) → checked reason_number answer ≡ refuse (reason_number why)
passed_on (Ok x) why h = absurd h
passed_on (Err e) why h = ap (λ (w : Reason). refuse (reason_number w)) h
