-- `root::tested` meets its contract: each return is one case of the definition of the root.
use mathlib.Core.Path.{◌≡◌, sym, ◌∙◌}
use mathlib.Core.Bool.{true, not}
use lib.Dec.{T}
use lib.Ieee.{Float, nan, inf, fin, binary64, is_nan}
use lib.Ieee.Bits.{of_bits-to_bits}
use Rattle.exact.specs.Numbers.{is_finite, Number}
use Rattle.exact.proofs.Basics.{passed}
use Rattle.root.proofs.Cases.{refuses_not_finite, refuses_below_zero, keeps_zero, finds_root, above_zero, word_between}
use Rattle.root.proofs.tested.Goals as goal
use Rattle.root.proofs.tested.Goals.{Else-not-finite, Else-x-2}

pub returns-then-not-finite : goal.returns-then-not-finite
returns-then-not-finite c = refuses_not_finite c.args.x (sym c.finite.ensures ∙ c.if-not-finite.true)

-- past the first test x is finite
finite : (c : Else-not-finite) → is_finite c.args.x ≡ true
finite c = sym c.finite.ensures ∙ c.if-not-finite.false

pub returns-then-x : goal.returns-then-x
returns-then-x c = refuses_below_zero c.args.x (finite (goal.at.returns-then-x c).Else-not-finite) c.if-x.true

pub returns-then-x-2 : goal.returns-then-x-2
returns-then-x-2 c = (c.if-x-2.true, keeps_zero c.args.x (finite (goal.at.returns-then-x-2 c).Else-not-finite) c.if-x.false c.if-x-2.true)

-- and past the last it is a number above zero
number : (c : Else-x-2) → Number binary64 c.args.x
number c = let finite : is_finite c.args.x ≡ true = sym c.finite.ensures ∙ c.if-not-finite.false in (passed c.well_formed.0.1, passed finite)

no_nan : (x : Float) → T (is_finite x) → T (not (is_nan x))
unfolding is_nan
no_nan nan h = absurd h
no_nan (inf s) h = tt
no_nan (fin s m e) h = tt

pub float_to_bits-result : goal.float_to_bits-result
float_to_bits-result c = no_nan c.args.x (number (goal.at.float_to_bits-result c).Else-x-2).1

pub returns : goal.returns
returns c = let x = c.args.x in
    let w = word_between x (number (goal.at.returns c).Else-x-2) (above_zero x (number (goal.at.returns c).Else-x-2) c.if-x.false c.if-x-2.false) in
    (c.if-x-2.false, finds_root x (finite (goal.at.returns c).Else-not-finite) c.if-x.false c.if-x-2.false, of_bits-to_bits binary64 x (number (goal.at.returns c).Else-x-2).0, w.0, w.1)
