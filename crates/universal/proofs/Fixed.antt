-- Each public function's contract has one result: `Learnt` is the contract itself, as Rattle reads it off the source for callers (coincidence's `Fixes`).
use mathlib.Core.Path.{refl}
use Rattle.coincidence.specs.Coincidence.{Fixes}
use Rattle.coincidence.proofs.Laws.{one_result, one_answer}
use Rattle.universal.proofs.Theorems.{summed_once, valued_once}
use Rattle.universal.proofs.series.refusal.Reads as series-refusal
use Rattle.universal.proofs.series.refusal.Kinds as series-refusal-kinds
use Rattle.universal.proofs.series.c2.Reads as series-c2
use Rattle.universal.proofs.series.c2.Kinds as series-c2-kinds
use Rattle.universal.proofs.series.c3.Reads as series-c3
use Rattle.universal.proofs.series.c3.Kinds as series-c3-kinds
use Rattle.universal.proofs.series.both_or_nan.Reads as series-both-or-nan
use Rattle.universal.proofs.series.both_or_nan.Kinds as series-both-or-nan-kinds
use Rattle.universal.proofs.at.Reads as at
use Rattle.universal.proofs.at.Kinds as at-kinds
use Rattle.universal.proofs.at_or_nan.Reads as at-or-nan
use Rattle.universal.proofs.at_or_nan.Kinds as at-or-nan-kinds
use Rattle.universal.proofs.time.Reads as time
use Rattle.universal.proofs.time.Kinds as time-kinds
use Rattle.universal.proofs.ratio.Reads as ratio
use Rattle.universal.proofs.ratio.Kinds as ratio-kinds

pub series_refusal_fixes : Fixes 0 series-refusal-kinds.ps series-refusal-kinds.r series-refusal.Learnt
series_refusal_fixes κs a x y v w p q = (one_result p q, refl)

pub series_c2_fixes : Fixes 0 series-c2-kinds.ps series-c2-kinds.r series-c2.Learnt
series_c2_fixes κs a x y v w p q = (one_answer summed_once x y p q, refl)

pub series_c3_fixes : Fixes 0 series-c3-kinds.ps series-c3-kinds.r series-c3.Learnt
series_c3_fixes κs a x y v w p q = (one_answer summed_once x y p q, refl)

pub series_both_or_nan_fixes : Fixes 0 series-both-or-nan-kinds.ps series-both-or-nan-kinds.r series-both-or-nan.Learnt
series_both_or_nan_fixes κs a x y v w p q = (one_result p q, refl)

pub at_fixes : Fixes 0 at-kinds.ps at-kinds.r at.Learnt
at_fixes κs a x y v w p q = (one_answer valued_once x y p q, refl)

pub at_or_nan_fixes : Fixes 0 at-or-nan-kinds.ps at-or-nan-kinds.r at-or-nan.Learnt
at_or_nan_fixes κs a x y v w p q = (one_result p q, refl)

pub time_fixes : Fixes 0 time-kinds.ps time-kinds.r time.Learnt
time_fixes κs a x y v w p q = (one_result p q, refl)

pub ratio_fixes : Fixes 0 ratio-kinds.ps ratio-kinds.r ratio.Learnt
ratio_fixes κs a x y v w p q = (one_result p q, refl)
