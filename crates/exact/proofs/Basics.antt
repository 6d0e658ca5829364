-- Small facts that many proofs need: what a Bool test says, and an order from the absence of the other one.
use mathlib.Core.Path.{◌≡◌, refl, sym, subst}
use mathlib.Core.Logic.{◌⊎◌, inl, inr, ◌↔◌}
use mathlib.Core.Bool.{Bool, true, false, not, ◌&&◌, ◌||◌}
use Prim.Native.Nat.{ℕ, ◌≤◌, ◌<◌}
use native.Mathlib.Nat.{le_of_suc-le-suc, lt_of_not-le}
use lib.Dec.{T}
use lib.Ieee.Bits.{is_true}
use lib.Ieee.Fits.{and_i, and_l, and_r}

-- what a test found, as the fact that it tests
pub passed : {t : Bool} → t ≡ true → T t
passed e = subst T (sym e) tt

pub failed : {t : Bool} → t ≡ false → T (not t)
failed e = subst (λ (t : Bool). T (not t)) (sym e) tt

-- two tests that pass together are the same test
pub same_test : (a b : Bool) → (T a → T b) → (T b → T a) → a ≡ b
same_test true true p q = refl
same_test true false p q = absurd (p tt)
same_test false true p q = absurd (q tt)
same_test false false p q = refl

pub or_split : (a b : Bool) → T (a || b) → T a ⊎ T b
or_split true b t = inl tt
or_split false b t = inr t

pub or_l : (a b : Bool) → T a → T (a || b)
or_l true b t = tt
or_l false b t = absurd t

pub or_r : (a b : Bool) → T b → T (a || b)
or_r true b t = tt
or_r false b t = t

-- a test and another one
pub both : (a b : Bool) → (a && b ≡ true) ↔ (T a × T b)
both a b = ((λ e. (and_l a b (passed e), and_r a b (passed e))), λ p. is_true (a && b) (and_i a b p.0 p.1))

-- what is not below is at least
pub not_below : {a b : ℕ} → (a < b → ⊥) → b ≤ a
not_below h = le_of_suc-le-suc (lt_of_not-le h)
