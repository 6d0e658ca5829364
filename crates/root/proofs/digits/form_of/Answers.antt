-- `root::digits::form_of` meets its contract: the word's fields say how many steps its number is, and `moved_up` brings these to the form.
use native.Mathlib.Omega.{arith}
use Rattle.root.proofs.Form.{low_steps, high_steps}
use Rattle.root.proofs.digits.form_of.Goals as goal

pub returns-then-field-eq0 : goal.returns-then-field-eq0
returns-then-field-eq0 c = rw (low_steps c.args.w (omega arith)) c.moved_up.ensures

pub returns-else-field-eq0 : goal.returns-else-field-eq0
returns-else-field-eq0 c = rw (high_steps c.args.w c.requires.1 c.if-field-eq0.false) c.moved_up-else-field-eq0.ensures
