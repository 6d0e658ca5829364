-- What a verdict says can be undone, so `said` is one to one, and the contract of `verdict::judge` has one answer.
use mathlib.Core.Path.{◌≡◌, refl}
use Rattle.coincidence.specs.Coincidence.{OneToOne}
use Rattle.coincidence.proofs.Laws.{undone}
use Rattle.ruling.specs.declared.Verdict.{Verdict}
use Rattle.ruling.specs.declared.Verdict.TheVariants as verdict
use Rattle.ruling.specs.Said.{Said, solved, refused, rejected, said}

abbrev unsaid : Said → Verdict
unsaid (solved residual) = verdict.Solved residual
unsaid refused = verdict.Refused
unsaid (rejected k) = verdict.Rejected k

unsaid_is : (a : Verdict) → unsaid (said a) ≡ a
unsaid_is (verdict.Solved residual) = refl
unsaid_is verdict.Refused = refl
unsaid_is (verdict.Rejected k) = refl

pub said_once : OneToOne said
said_once = undone said unsaid unsaid_is
