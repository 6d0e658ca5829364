-- The unit of time is a finite number without a minus: the radius is a root of three squares, the unit a product of it and a root of it over mu.
use mathlib.Core.Path.{◌≡◌, refl, sym, ◌∙◌, subst}
use mathlib.Core.Bool.{Bool, true, false, cond, ◌&&◌, true≢false}
use Prim.Native.Nat.{ℕ}
use lib.Dec.{T}
use lib.Ieee.{Float, binary64, lt, ne}
use lib.Ieee.Fits.{and_l, and_r, mul-fits}
use Rattle.exact.specs.Numbers.{◌⊗◌, ◌⊘◌, nought, is_finite, is_minus}
use Rattle.exact.proofs.Basics.{passed}
use Rattle.exact.proofs.Signs.{Plus, mul_plus, div_plus, above_zero_plus, three_squares}
use Rattle.root.specs.Said as root
use Rattle.root.specs.Root.{root_of}
use Rattle.root.proofs.Cases.{root_plus}
use Rattle.rows.specs.Rows.{pass}
use Rattle.vectors.specs.declared.Vector.{Vector}
use Rattle.vectors.specs.Vectors.{dot}
use Rattle.units.specs.Units.{is_usable, Measured, measured, unusable, root_refused, after_root, radius_of, unit_of, numbered}

-- what passes was measured
was_measured : {A : Type 0} (k j : ℕ) (m : Measured A) (x : A) → numbered k j m ≡ pass x → m ≡ measured x
was_measured k j (measured y) x e = cc
was_measured k j unusable x e = absurd (true≢false cc)
was_measured k j root_refused x e = absurd (true≢false cc)

-- where something is measured behind a test and a root, the root was given
module _ {A : Type 0} (test : Bool) (rest : Float → Measured A) (x : A) where
  rooted_by : (s : root.Said) → after_root s rest ≡ measured x → (y : Float) × (s ≡ root.root y) × (rest y ≡ measured x)
  rooted_by (root.root y) e = (y, refl, e)
  rooted_by (root.refused k) e = absurd (true≢false cc)

  measured_by : (s : root.Said) → cond test (after_root s rest) unusable ≡ measured x → (y : Float) × (s ≡ root.root y) × (rest y ≡ measured x)
  measured_by s e = go test e
    where
      go : (b : Bool) → cond b (after_root s rest) unusable ≡ measured x → (y : Float) × (s ≡ root.root y) × (rest y ≡ measured x)
      go true h = rooted_by s h
      go false h = absurd (true≢false cc)

chosen : {A : Type 0} (b : Bool) (a x : A) → cond b (measured a) unusable ≡ measured x → (b ≡ true) × (a ≡ x)
chosen true a x e = (refl, cc)
chosen false a x e = absurd (true≢false cc)

radius_plus : (r : Vector) (r0 : Float) → radius_of r ≡ measured r0 → is_minus r0 ≡ false
unfolding radius_of
radius_plus r r0 h =
    let R = measured_by (is_usable (dot r r)) (λ y. cond (is_usable y) (measured y) unusable) r0 (root_of (dot r r)) h in
    subst (λ (y : Float). is_minus y ≡ false) (chosen (is_usable R.0) R.0 r0 R.2).1 (root_plus (dot r r) R.0 (three_squares r.x r.y r.z) R.1)

f4_plus : (mu r0 : Float) (f : Float × Float) → is_minus mu ≡ false → is_minus r0 ≡ false → unit_of mu r0 ≡ measured f → Plus f.1
unfolding unit_of
f4_plus mu r0 f m p h =
    let F = measured_by (is_usable (r0 ⊘ mu)) (λ f1. cond (is_usable f1 && is_usable (r0 ⊗ f1)) (measured (f1, r0 ⊗ f1)) unusable) f (root_of (r0 ⊘ mu)) h in
    let f1 = F.0 in
    let good = chosen (is_usable f1 && is_usable (r0 ⊗ f1)) (f1, r0 ⊗ f1) f F.2 in
    let f1-plus = root_plus (r0 ⊘ mu) f1 (div_plus binary64 r0 mu (p ∙ sym m)) F.1 in
    let finite : T (is_finite (r0 ⊗ f1)) = and_l (is_finite (r0 ⊗ f1)) (ne (r0 ⊗ f1) nought) (and_r (is_usable f1) (is_usable (r0 ⊗ f1)) (passed good.0)) in
    subst (λ (g : Float × Float). Plus g.1) good.1 ((mul-fits binary64 r0 f1, finite), mul_plus binary64 r0 f1 (p ∙ sym f1-plus))

-- the unit in a row of tests, with any numbers for what is not usable and for a root that is refused
pub unit_plus : (mu : Float) (r : Vector) (r0 : Float) (f : Float × Float) (k j m n : ℕ) → T (lt nought mu) → numbered k j (radius_of r) ≡ pass r0 → numbered m n (unit_of mu r0) ≡ pass f → Plus f.1
unit_plus mu r r0 f k j m n above a b = f4_plus mu r0 f (above_zero_plus mu above) (radius_plus r r0 (was_measured k j (radius_of r) r0 a)) (was_measured m n (unit_of mu r0) f b)
