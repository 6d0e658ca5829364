-- The universal functions, time and radius ratio: RULES, The universal functions. Definitions only.
use Rattle.std.specs.Prelude.{Float}
use Rattle.std.specs.Float.{nan}
use Rattle.exact.specs.Numbers.{◌⊕◌, ◌⊖◌, ◌⊗◌, ◌⊘◌, one, two}
use Rattle.rows.specs.Rows.{Checked, pass, refuse, onward}
use Rattle.universal.specs.declared.Functions.{Functions}
use Rattle.universal.specs.Series.{four, coefficients, worked, series_of}

-- 5: z = alpha*h, where h = y*y and y = x/4
abbrev pub argument_at : (x alpha : Float) → Float
argument_at x alpha = let y = x ⊘ four in alpha ⊗ (y ⊗ y)

-- 5: U2 = h*C2(z), U3 = (y*h)*C3(z), U1 = y - alpha*U3, U0 = 1 - alpha*U2
abbrev pub quartered : (y alpha c2 c3 : Float) → Functions
quartered y alpha c2 c3 =
    let h = y ⊗ y in
    let u2 = h ⊗ c2 in
    let u3 = (y ⊗ h) ⊗ c3 in
    record { u0 = one ⊖ alpha ⊗ u2; u1 = y ⊖ alpha ⊗ u3; u2 = u2; u3 = u3 }

-- 6: U1' = 2*U0*U1, U2' = 2*U1*U1, U3' = 2*U3 + 2*(U1*U2), U0' = 1 - alpha*U2'
abbrev pub doubled_once : Float → Functions → Functions
doubled_once alpha u =
    let u2' = two ⊗ u.u1 ⊗ u.u1 in
    record { u0 = one ⊖ alpha ⊗ u2'; u1 = two ⊗ u.u0 ⊗ u.u1; u2 = u2'; u3 = two ⊗ u.u3 ⊕ two ⊗ (u.u1 ⊗ u.u2) }

-- 5 and 6: the four functions at x from C2(z) and C3(z): a quarter, doubled twice
abbrev pub functions_by : (x alpha c2 c3 : Float) → Functions
functions_by x alpha c2 c3 = doubled_once alpha (doubled_once alpha (quartered (x ⊘ four) alpha c2 c3))

-- 9: the four functions, refused where the series are
unfoldable pub functions_at : (x alpha : Float) → Checked Functions
functions_at x alpha =
    let z = argument_at x alpha in
    onward (series_of 2 z) (λ c2.
    onward (series_of 3 z) (λ c3.
    pass (functions_by x alpha c2 c3)))

-- the same whatever z is: what the functions are where they are not refused
unfoldable pub worked_at : (x alpha : Float) → Functions
worked_at x alpha =
    let z = argument_at x alpha in
    functions_by x alpha (worked (coefficients 2) z) (worked (coefficients 3) z)

-- 9: functions that are refused stand in a time as NaNs, so that it is not finite
abbrev pub nans : Functions
nans = record { u0 = nan; u1 = nan; u2 = nan; u3 = nan }

abbrev pub or_nans : Checked Functions → Functions
or_nans (pass u) = u
or_nans (refuse k) = nans

-- 7: T(x) = U1 + s*U2 + U3
abbrev pub time_of : (s : Float) → Functions → Float
time_of s u = u.u1 ⊕ s ⊗ u.u2 ⊕ u.u3

-- 8: R(x) = U0 + s*U1 + U2
abbrev pub ratio_of : (s : Float) → Functions → Float
ratio_of s u = u.u0 ⊕ s ⊗ u.u1 ⊕ u.u2
