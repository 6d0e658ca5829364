-- Each public function's contract has one result: `Learnt` is the contract itself, as Rattle reads it off the source for callers (coincidence's `Fixes`).
use mathlib.Core.Path.{refl, ap}
use Rattle.coincidence.specs.Coincidence.{Fixes}
use Rattle.coincidence.proofs.Laws.{one_result}
use Rattle.words.proofs.word.Reads as word
use Rattle.words.proofs.word.Kinds as word-kinds
use Rattle.words.proofs.half.Reads as half
use Rattle.words.proofs.half.Kinds as half-kinds
use Rattle.words.proofs.put_word.Reads as put_word
use Rattle.words.proofs.put_word.Kinds as put-word-kinds
use Rattle.words.proofs.put_half.Reads as put-half
use Rattle.words.proofs.put_half.Kinds as put-half-kinds

pub word_fixes : Fixes 1 word-kinds.ps word-kinds.r word.Learnt
word_fixes κs a x y v w p q = (one_result p q, refl)

pub half_fixes : Fixes 1 half-kinds.ps half-kinds.r half.Learnt
half_fixes κs a x y v w p q = (one_result p q, refl)

pub put_word_fixes : Fixes 2 put-word-kinds.ps put-word-kinds.r put_word.Learnt
put_word_fixes κs a x y v w p q = (refl, ap (λ l. (l, (tt, tt))) (one_result p q))

pub put_half_fixes : Fixes 2 put-half-kinds.ps put-half-kinds.r put-half.Learnt
put_half_fixes κs a x y v w p q = (refl, ap (λ l. (l, (tt, tt))) (one_result p q))
