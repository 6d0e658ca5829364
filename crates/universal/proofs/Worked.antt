-- The functions are refused where z is not in the series' range, and else they are what is worked at z (`by_range`). So where they pass they are
-- that, and z is in the range (`works`, `passed_works`, `passed_in_range`); and where not, NaNs stand for them in a time (`works_or_nans`).
use mathlib.Core.Path.{◌≡◌, refl, sym, ap, ◌∙◌}
use mathlib.Core.Logic.{◌⊎◌, inl, inr}
use mathlib.Core.Bool.{Bool, true, false}
use lib.Ieee.{Float, nan}
use Rattle.exact.proofs.NotANumber.{plus_nan, minus_nan, times_nan}
use Rattle.rows.specs.Rows.{Checked, pass, refuse, must, onward}
use Rattle.rows.proofs.Laws.{pass_once, test_passed}
use Rattle.universal.specs.declared.Functions.{Functions}
use Rattle.universal.specs.Series.{coefficients, worked, in_range, out_of_range, series_of, sums_or_nans}
use Rattle.universal.specs.Functions.{argument_at, functions_by, functions_at, worked_at, nans, or_nans}

-- the functions at x are not refused
abbrev pub Works : (x alpha : Float) → Type 0
Works x alpha = functions_at x alpha ≡ pass (worked_at x alpha)

module _ (x alpha : Float) where
  abbrev z : Float
  z = argument_at x alpha

  pub by_range : functions_at x alpha ≡ must (in_range z) out_of_range (pass (worked_at x alpha))
  unfolding must onward series_of functions_at worked_at
  by_range = go (in_range z)
    where
      go : (b : Bool) → onward (must b out_of_range (pass (worked (coefficients 2) z))) (λ c2. onward (must b out_of_range (pass (worked (coefficients 3) z))) (λ c3. pass (functions_by x alpha c2 c3))) ≡ must b out_of_range (pass (functions_by x alpha (worked (coefficients 2) z) (worked (coefficients 3) z)))
      go true = refl
      go false = refl

  pub works : in_range z ≡ true → Works x alpha
  unfolding must
  works r = by_range ∙ rw r refl

  row_passed : {u : Functions} → functions_at x alpha ≡ pass u → (in_range z ≡ true) × (◌≡◌ {A = Checked Functions} (pass (worked_at x alpha)) (pass u))
  row_passed {u} e = test_passed (in_range z) out_of_range (pass (worked_at x alpha)) (sym by_range ∙ e)

  pub passed_in_range : {u : Functions} → functions_at x alpha ≡ pass u → in_range z ≡ true
  passed_in_range e = (row_passed e).0

  pub passed_is : {u : Functions} → functions_at x alpha ≡ pass u → worked_at x alpha ≡ u
  passed_is e = pass_once (row_passed e).1

  pub passed_works : {u : Functions} → functions_at x alpha ≡ pass u → Works x alpha
  passed_works e = e ∙ sym (row_passed e).1

  -- what is made of NaNs, and of sums or NaNs
  of_nans : functions_by x alpha nan nan ≡ nans
  of_nans = simp (times_nan, minus_nan, plus_nan)

  pub of_sums_or_nans : functions_by x alpha (sums_or_nans z).c2 (sums_or_nans z).c3 ≡ or_nans (functions_at x alpha)
  unfolding must onward series_of functions_at
  of_sums_or_nans = go (in_range z) refl
    where
      go : (b : Bool) → in_range z ≡ b → functions_by x alpha (sums_or_nans z).c2 (sums_or_nans z).c3 ≡ or_nans (functions_at x alpha)
      go true e = rw e refl
      go false e = rw e of_nans

  pub works_or_nans : Works x alpha ⊎ (or_nans (functions_at x alpha) ≡ nans)
  works_or_nans = go (functions_at x alpha) refl
    where
      go : (c : Checked Functions) → functions_at x alpha ≡ c → Works x alpha ⊎ (or_nans (functions_at x alpha) ≡ nans)
      go (pass u) e = inl (passed_works e)
      go (refuse k) e = inr (ap or_nans e)
