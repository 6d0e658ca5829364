-- Each public function's contract has one result: `Learnt` is the contract itself, as Rattle reads it off the source for callers (coincidence's `Fixes`).
use mathlib.Core.Path.{refl, ap}
use Rattle.coincidence.specs.Coincidence.{Fixes}
use Rattle.coincidence.proofs.Laws.{one_result}
use Rattle.reply.proofs.refused.Reads as refused
use Rattle.reply.proofs.refused.Kinds as refused-kinds
use Rattle.reply.proofs.reply.Reads as reply
use Rattle.reply.proofs.reply.Kinds as reply-kinds

pub refused_fixes : Fixes 2 refused-kinds.ps refused-kinds.r refused.Learnt
refused_fixes κs a x y v w p q = (refl, ap (λ l. (tt, (l, tt))) (one_result p q))

pub reply_fixes : Fixes 1 reply-kinds.ps reply-kinds.r reply.Learnt
reply_fixes κs a x y v w p q = (one_result p.0 q.0, ap (λ l. (tt, (l, tt))) (one_result p.1 q.1))
