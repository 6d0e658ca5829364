-- Each public function's contract has one result: `Learnt` is the contract itself, as Rattle reads it off the source for callers (coincidence's `Fixes`).
use mathlib.Core.Path.{refl}
use Rattle.coincidence.specs.Coincidence.{Fixes}
use Rattle.coincidence.proofs.Laws.{one_result, one_answer}
use Rattle.version.proofs.Theorems.{named_once, given_once}
use Rattle.version.proofs.Version.number.Reads as version-number
use Rattle.version.proofs.Version.number.Kinds as version-number-kinds
use Rattle.version.proofs.Version.form.Reads as version-form
use Rattle.version.proofs.Version.form.Kinds as version-form-kinds
use Rattle.version.proofs.Version.tag.Reads as version-tag
use Rattle.version.proofs.Version.tag.Kinds as version-tag-kinds
use Rattle.version.proofs.named.Reads as named
use Rattle.version.proofs.named.Kinds as named-kinds
use Rattle.version.proofs.given.Reads as given
use Rattle.version.proofs.given.Kinds as given-kinds

pub version_number_fixes : Fixes 0 version-number-kinds.ps version-number-kinds.r version-number.Learnt
version_number_fixes κs a x y v w p q = (one_result p q, refl)

pub version_form_fixes : Fixes 0 version-form-kinds.ps version-form-kinds.r version-form.Learnt
version_form_fixes κs a x y v w p q = (one_result p q, refl)

pub version_tag_fixes : Fixes 0 version-tag-kinds.ps version-tag-kinds.r version-tag.Learnt
version_tag_fixes κs a x y v w p q = (one_result p q, refl)

pub named_fixes : Fixes 0 named-kinds.ps named-kinds.r named.Learnt
named_fixes κs a x y v w p q = (one_answer named_once x y p q, refl)

pub given_fixes : Fixes 0 given-kinds.ps given-kinds.r given.Learnt
given_fixes κs a x y v w p q = (one_answer given_once x y p q, refl)
