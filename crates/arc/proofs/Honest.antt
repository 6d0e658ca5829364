-- A root that is refused stands in T(z) as NaN, and so do functions that are refused. That hides nothing: where T(z) is finite, both roots were
-- given (`roots_given`) and so were the functions (`functions_given`). A NaN goes through every operation on the way; a C that is NaN has no root,
-- and a k that is NaN makes y NaN, whose root is refused.
use mathlib.Core.Path.{◌≡◌, refl, sym, ap, ◌∙◌}
use mathlib.Core.Logic.{◌⊎◌, inl, inr}
use mathlib.Core.Bool.{true, true≢false}
use lib.Ieee.{Float, nan}
use Rattle.exact.specs.Numbers.{◌⊕◌, ◌⊖◌, ◌⊗◌, one, is_finite}
use Rattle.exact.proofs.NotANumber.{plus_nan, minus_nan, times_nan, over_nan}
use Rattle.root.specs.Said as root
use Rattle.root.specs.Root.{root_of}
use Rattle.root.proofs.Cases.{refuses_not_finite}
use Rattle.universal.specs.declared.Functions.{Functions}
use Rattle.universal.specs.Functions.{functions_at, or_nans}
use Rattle.universal.proofs.Worked.{Works, works_or_nans}
use Rattle.arc.specs.declared.Scaled.{Scaled}
use Rattle.arc.specs.Arc.{or_nan, root_or_nan, shape_by, shape_at, time_at}

-- ---- both roots

-- a root that was given, or NaN in its place
given_or_nan : (a : root.Said) → ((r : Float) × (a ≡ root.root r)) ⊎ (or_nan a ≡ nan)
given_or_nan (root.root r) = inl (r, refl)
given_or_nan (root.refused k) = inr refl

-- the root of x was given
abbrev pub Given : Float → Type 0
Given x = (r : Float) × (root_of x ≡ root.root r)

module _ (o : Scaled) (z : Float) (f : is_finite (time_at o z) ≡ true) where
  abbrev u : Functions
  u = or_nans (functions_at one z)

  abbrev y : Float
  y = (shape_at o.rho o.a z).y

  no_nan : {A : Type 0} → time_at o z ≡ nan → A
  no_nan e = absurd (true≢false (sym f ∙ ap is_finite e))

  -- T is NaN where g is
  nan_time : root_or_nan y ≡ nan → time_at o z ≡ nan
  unfolding time_at shape_by
  nan_time e = rw (e, times_nan o.a) (plus_nan _)

  -- and y where k is
  nan_shape : root_or_nan u.u2 ≡ nan → y ≡ nan
  unfolding shape_by
  nan_shape e = rw (e, over_nan (o.a ⊗ (one ⊖ z ⊗ u.u3))) (minus_nan (one ⊕ o.rho))

  -- so C has a root
  no_nan_root : {A : Type 0} → root_or_nan u.u2 ≡ nan → A
  unfolding root_or_nan
  no_nan_root e = no_nan (nan_time (ap or_nan (ap root_of (nan_shape e) ∙ refuses_not_finite nan refl)))

  pub roots_given : Given u.u2 × Given y
  unfolding root_or_nan
  roots_given = (elim (given_or_nan (root_of u.u2)) [ inl g ↦ g | inr e ↦ no_nan_root e ], elim (given_or_nan (root_of y)) [ inl g ↦ g | inr e ↦ no_nan (nan_time e) ])

  -- and is none of the NaNs that stand for refused functions
  pub functions_given : Works one z
  unfolding root_or_nan
  functions_given = elim (works_or_nans one z) [ inl w ↦ w | inr e ↦ no_nan_root (ap (λ (v : Functions). root_or_nan v.u2) e ∙ ap or_nan (refuses_not_finite nan refl)) ]
