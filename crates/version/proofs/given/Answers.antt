-- `version::given` meets its contract: no version, another form, or the version.
use mathlib.Core.Path.{sym, ap, ◌∙◌}
use Rattle.version.specs.Version.{given_said}
use Rattle.version.proofs.Forms.{no_version, other_form, its_form}
use Rattle.version.proofs.given.Goals as goal

pub returns-in_err-version : goal.returns-in_err-version
returns-in_err-version c = ap given_said c.from_residual.ensures ∙ sym (no_version c.args.number c.args.form (sym c.in_err-version.ensures))

pub returns-then-form : goal.returns-then-form
returns-then-form c = sym (other_form c.args.number c.args.form c.in_ok-version.version (sym c.in_ok-version.ensures) (λ same. c.if-form.true (same ∙ sym c.form.ensures)))

pub returns : goal.returns
returns c = sym (its_form c.args.number c.args.form c.in_ok-version.version (sym c.in_ok-version.ensures) (c.if-form.false ∙ c.form.ensures))
