-- `series::horner` meets its contract: what is still to be worked, from the sum so far, is what was to be worked at first.
use mathlib.Core.Path.{◌≡◌, refl, sym, ap, ◌∙◌}
use mathlib.Core.List.{List, ◌∷◌, [], ◌++◌}
use Prim.Native.Nat.{suc}
use native.Mathlib.Omega.{arith}
use lib.ListN.{length, get_or, take}
use lib.Ieee.{Float, nan, neg}
use Rattle.std.proofs.Common.{rules, add-one}
use Rattle.std.proofs.lemmas.List.{get_or-take, get_or_push, get_or_append_left, length_push}
use Rattle.exact.specs.Numbers.{◌⊕◌, ◌⊗◌}
use Rattle.universal.specs.Series.{worked_from, worked}
use Rattle.universal.proofs.series.horner.Invariants.{Front}
use Rattle.universal.proofs.series.horner.Goals as goal

-- one turn takes the last of what is left
module _ (table front : List Float) (c : Float) (begins : Front table (front ++ c ∷ [])) where
  longer : length (front ++ c ∷ []) ≡ suc (length front)
  longer = length_push front c ∙ add-one (length front)

  shorter : Front table front
  shorter k l = sym (get_or_append_left front (c ∷ []) nan k l) ∙ begins k (omega (arith, longer))

  turn : (z sum : Float) → worked_from table z (length (front ++ c ∷ [])) sum ≡ worked_from table z (length front) (sum ⊗ neg z ⊕ c)
  unfolding worked_from
  turn z sum =
      let last : c ≡ get_or table (length front) nan = sym (get_or_push front c nan (length front) refl) ∙ begins (length front) (omega (arith, longer)) in
      rw longer (ap (λ (y : Float). worked_from table z (length front) (sum ⊗ neg z ⊕ y)) (sym last))

pub loop-c-init : goal.loop-c-init
unfolding worked
loop-c-init c =
    let e : c.into_iter-c-iterator.result.iter.rest.now ≡ take 11 c.args.table = search rules in
    let n : length c.into_iter-c-iterator.result.iter.rest.now ≡ 11 = search rules in
    (λ k l. rw e (get_or-take 11 c.args.table k nan (omega (arith, n, l))), rw n refl)

pub loop-c-preserved : goal.loop-c-preserved
loop-c-preserved c = let front = c.next.new.self.iter.rest.now in
    let had = rw c.in-Some.ensures.steps at c.loop-c.invariant in
    (shorter c.args.table front c.in-Some.c.now had.0, sym (turn c.args.table front c.in-Some.c.now had.0 c.args.z c.loop-c.sum) ∙ had.1)

pub returns : goal.returns
unfolding worked_from
returns c = rw c.in-None.ensures.steps.0 at c.loop-c.invariant.1
