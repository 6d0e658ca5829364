-- Comparisons by themselves: below excludes above, for NaN and infinities too; at most is transitive; between finite numbers all is
-- finite, and so is what has a finite bound.
use mathlib.Core.Path.{◌≡◌, refl, sym, ap}
use mathlib.Core.Bool.{Bool, true, false, not, true≢false}
use Prim.Native.Nat.{ℕ, ◌*◌}
use native.Mathlib.Nat as nat
use borrow.Author.Tests.{ltb-true, le-ltb, not-true}
use lib.Dec.{T}
use lib.Ieee.{Float, nan, inf, fin, Format, up, down, below, lt, eq, le}
use Rattle.exact.specs.Numbers.{is_finite, Number, magnitude}
use Rattle.exact.proofs.Basics.{or_l}
use Rattle.exact.proofs.Order.{le_place}

below_once : (s t : Bool) (a b : ℕ) → below s a t b ≡ true → below t b s a ≡ false
below_once false false a b h = le-ltb b a (nat.le_of_lt (ltb-true a b h))
below_once false true a b h = absurd (true≢false (sym h))
below_once true false a b h = refl
below_once true true a b h = le-ltb a b (nat.le_of_lt (ltb-true b a h))

pub lt_once : (x y : Float) → lt x y ≡ true → lt y x ≡ false
unfolding lt
lt_once nan y h = absurd (true≢false (sym h))
lt_once (inf s) nan h = refl
lt_once (inf true) (inf true) h = refl
lt_once (inf true) (inf false) h = refl
lt_once (inf false) (inf t) h = absurd (true≢false (sym h))
lt_once (inf s) (fin t n d) h = ap not h
lt_once (fin s m e) nan h = refl
lt_once (fin s m e) (inf t) h = not-true t h
lt_once (fin s m e) (fin t n d) h = below_once s t (m * up e * down d) (n * up d * down e) h

pub le_of_lt : (x y : Float) → T (lt x y) → T (le x y)
unfolding le
le_of_lt x y h = or_l (lt x y) (eq x y) h

pub le_refl : (f : Format) (x : Float) → Number f x → T (le x x)
le_refl f x h = (le_place f x x h h).1 (nat.le_of_eq refl)

pub le_trans : (f : Format) (x y z : Float) → Number f x → Number f y → Number f z → T (le x y) → T (le y z) → T (le x z)
le_trans f x y z h k l p q = (le_place f x z h l).1 (nat.le_trans ((le_place f x y h k).0 p) ((le_place f y z k l).0 q))

pub finite_between : (x y z : Float) → T (is_finite x) → T (is_finite z) → T (le x y) → T (le y z) → T (is_finite y)
unfolding le lt eq
finite_between x nan z a c p q = absurd q
finite_between nan (inf true) z a c p q = absurd a
finite_between (inf s) (inf true) z a c p q = absurd a
finite_between (fin s m e) (inf true) z a c p q = absurd p
finite_between x (inf false) nan a c p q = absurd c
finite_between x (inf false) (inf s) a c p q = absurd c
finite_between x (inf false) (fin s m e) a c p q = absurd q
finite_between x (fin s m e) z a c p q = tt

pub bounded_finite : (x y : Float) → T (is_finite y) → T (le (magnitude x) y) → T (is_finite x)
unfolding magnitude le lt eq
bounded_finite nan y f h = absurd h
bounded_finite (inf s) nan f h = absurd f
bounded_finite (inf s) (inf t) f h = absurd f
bounded_finite (inf s) (fin t n d) f h = absurd h
bounded_finite (fin s m e) y f h = tt
