-- The version that is given: what its number names, under the number 42, and then the test of the form.
use mathlib.Core.Path.{◌≡◌, refl}
use mathlib.Core.Bool.{Bool, true, false}
use Prim.Native.Nat.{ℕ}
use borrow.Author.Tests.{eq-eqb, ne_eqb, eqb-true}
use lib.Dec.{eqb}
use Rattle.rows.specs.Rows.{pass, refuse, must, onward}
use Rattle.version.specs.declared.Version.{Version}
use Rattle.version.specs.declared.Version.TheVariants as version
use Rattle.version.specs.Version.{version_of, form_number, version_given}

pub no_version : (number form : ℕ) → version_of number ≡ refuse 31 → version_given number form ≡ refuse 42
unfolding version_given onward
no_version number form e = rw e refl

pub other_form : (number form : ℕ) (v : Version) → version_of number ≡ pass v → (form ≡ form_number v → ⊥) → version_given number form ≡ refuse 42
unfolding version_given onward must
other_form number form v e ne = rw (e, ne_eqb form (form_number v) ne) refl

pub its_form : (number form : ℕ) (v : Version) → version_of number ≡ pass v → form ≡ form_number v → version_given number form ≡ pass v
unfolding version_given onward must
its_form number form v e f = rw (e, eq-eqb form (form_number v) f) refl

-- in the rule's own numbers: version 1 goes with form 0, version 2 with form 1, and every other pair is 42
pub one_given : version_given 1 0 ≡ pass version.One
unfolding version_given version_of form_number onward must
one_given = refl

pub two_given : version_given 2 1 ≡ pass version.Two
unfolding version_given version_of form_number onward must
two_given = refl

pub none_given : (number form : ℕ) → ((number ≡ 1) × (form ≡ 0) → ⊥) → ((number ≡ 2) × (form ≡ 1) → ⊥) → version_given number form ≡ refuse 42
unfolding version_of form_number
none_given number form not-one not-two = first (eqb number 1) refl
  where
    second : (b : Bool) → eqb number 1 ≡ false → eqb number 2 ≡ b → version_given number form ≡ refuse 42
    second true n e = other_form number form version.Two (rw (n, e) refl) (λ f. not-two (eqb-true number 2 e, f))
    second false n e = no_version number form (rw (n, e) refl)

    first : (b : Bool) → eqb number 1 ≡ b → version_given number form ≡ refuse 42
    first true e = other_form number form version.One (rw e refl) (λ f. not-one (eqb-true number 1 e, f))
    first false e = second (eqb number 2) e refl
