-- What fits binary64, NaN and infinities included: the numbers of a state and of a problem. The time and the state at x do, since each
-- number is the sum of two.
use Prim.Native.Nat.{◌^◌, ◌<◌}
use lib.Dec.{T}
use lib.Ieee.{Float, binary64, fits}
use lib.Ieee.Fits.{add-fits}
use Rattle.exact.specs.Numbers.{◌⊕◌, ◌⊗◌}
use Rattle.conic.specs.declared.State.{State}
use Rattle.conic.specs.declared.Problem.{Problem}
use Rattle.conic.specs.declared.Scaled.{Scaled}
use Rattle.vectors.proofs.Fitting.{VectorFits, combined_fits}
use Rattle.universal.specs.Functions.{functions_at, or_nans}
use Rattle.conic.specs.TimeAndRatio.{time_at}
use Rattle.conic.specs.Unfolding.{unfolded, state_at}

abbrev pub StateFits : State → Type 0
StateFits a = VectorFits a.r × VectorFits a.v

-- and the limit is a u32
pub record ProblemFits (p : Problem) : Type 0 where
  pub mu_fits : T (fits binary64 p.mu)
  pub r_fits : VectorFits p.r
  pub v_fits : VectorFits p.v
  pub dt_fits : T (fits binary64 p.dt)
  pub limit_fits : p.limit < 2 ^ 32

pub time_fits : (o : Scaled) (x : Float) → T (fits binary64 (time_at o x))
unfolding time_at
time_fits o x = let u = or_nans (functions_at x o.alpha) in add-fits binary64 (u.u1 ⊕ o.s ⊗ u.u2) u.u3

pub state_fits : (o : Scaled) (x : Float) → StateFits (state_at o x)
unfolding unfolded
state_fits o x = (combined_fits o.r _ _ _, combined_fits o.r _ o.v _)
