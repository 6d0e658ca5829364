-- Numbers by their sizes, whatever their signs: |x| ≤ y compares the steps, and what lies between two numbers of at most n steps has no more
-- steps itself.
use mathlib.Core.Path.{◌≡◌, refl}
use mathlib.Core.Logic.{◌↔◌}
use mathlib.Core.Bool.{Bool, true, false}
use Prim.Native.Nat.{ℕ, ◌+◌, ◌-◌, ◌≤◌, ◌<◌}
use native.Mathlib.Nat.{le_trans}
use native.Mathlib.Omega.{arith}
use lib.Dec.{T}
use lib.Ieee.{Float, nan, inf, fin, Format, binary64, le}
use lib.Ieee.Scale.{overflow}
use Rattle.exact.specs.Numbers.{Number, magnitude, is_minus, steps}
use Rattle.exact.proofs.Steps.{steps_lt}
use Rattle.exact.proofs.Order.{along, place, le_place, plus_le}
use Rattle.exact.proofs.Signs.{Plus, magnitude_plus}

pub magnitude_steps : (f : Format) (x : Float) → steps f (magnitude x) ≡ steps f x
unfolding magnitude steps
magnitude_steps f nan = refl
magnitude_steps f (inf s) = refl
magnitude_steps f (fin s m e) = refl

pub magnitude_le : (x y : Float) → Number binary64 x → Plus y → T (le (magnitude x) y) ↔ (steps binary64 x ≤ steps binary64 y)
magnitude_le x y h q =
    let p = magnitude_plus x h in
    rw (magnitude_steps binary64 x) at (plus_le binary64 (magnitude x) y p.0 q.0 p.1 q.1)

-- on either side of o, no farther than a
aside : (o a : ℕ) (s : Bool) → (o - a ≤ along o s a) × (along o s a ≤ o + a)
aside o a true = (omega arith, omega arith)
aside o a false = (omega arith, omega arith)

between : (o n a b c : ℕ) (s : Bool) → b < o → a ≤ n → c ≤ n → o - a ≤ along o s b → along o s b ≤ o + c → b ≤ n
between o n a b c true B l m p q = omega arith
between o n a b c false B l m p q = omega arith

pub between_most : (f : Format) (lo x hi : Float) (n : ℕ) → Number f lo → Number f x → Number f hi → steps f lo ≤ n → steps f hi ≤ n → T (le lo x) → T (le x hi) → steps f x ≤ n
unfolding place
between_most f lo x hi n h k l a c p q =
    let under = le_trans (aside (overflow f) (steps f lo) (is_minus lo)).0 ((le_place f lo x h k).0 p) in
    let over = le_trans ((le_place f x hi k l).0 q) (aside (overflow f) (steps f hi) (is_minus hi)).1 in
    between (overflow f) n (steps f lo) (steps f x) (steps f hi) (is_minus x) (steps_lt f x k.0) a c under over
