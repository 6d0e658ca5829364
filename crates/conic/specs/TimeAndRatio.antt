-- Time and radius ratio of a scaled problem: RULES, The universal functions 7 to 9. Definitions only.
use Rattle.std.specs.Prelude.{Float}
use Rattle.universal.specs.Functions.{functions_at, worked_at, or_nans, time_of, ratio_of}
use Rattle.conic.specs.declared.Scaled.{Scaled}

-- T(x); NaN where the functions are refused
unfoldable pub time_at : Scaled → (x : Float) → Float
time_at o x = time_of o.s (or_nans (functions_at x o.alpha))

-- R(x), where the functions are not refused
abbrev pub ratio_at : Scaled → (x : Float) → Float
ratio_at o x = ratio_of o.s (worked_at x o.alpha)
