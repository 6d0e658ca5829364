-- Kinds and their numbers: each kind is the one that its number names, and a number that names a kind is that kind's.
use mathlib.Core.Path.{◌≡◌, refl, sym, ap, ◌∙◌}
use mathlib.Core.Bool.{Bool, true, false, cond, true≢false}
use Prim.Native.Nat.{ℕ}
use borrow.Author.Tests.{eqb-true}
use lib.Dec.{eqb}
use Rattle.rows.specs.Rows.{pass, refuse}
use Rattle.rows.proofs.Laws.{pass_once}
use Rattle.card.specs.declared.Kind.{Kind}
use Rattle.card.specs.declared.Kind.TheVariants as kind
use Rattle.card.specs.Fields.{kind_of, kind_number}

pub kind_of_number : (k : Kind) → kind_of (kind_number k) ≡ pass k
unfolding kind_of kind_number
kind_of_number kind.Solved = refl
kind_of_number kind.Refused = refl
kind_of_number kind.Transfer = refl

pub number_of_kind : (n : ℕ) (k : Kind) → kind_of n ≡ pass k → kind_number k ≡ n
unfolding kind_of kind_number
number_of_kind n k h = first (eqb n 1) refl
  where
    third : (b : Bool) → eqb n 3 ≡ b → cond b (pass kind.Transfer) (refuse 34) ≡ pass k → kind_number k ≡ n
    third true e h = ap kind_number (sym (pass_once h)) ∙ sym (eqb-true n 3 e)
    third false e h = absurd (true≢false cc)

    second : (b : Bool) → eqb n 2 ≡ b → cond b (pass kind.Refused) (cond (eqb n 3) (pass kind.Transfer) (refuse 34)) ≡ pass k → kind_number k ≡ n
    second true e h = ap kind_number (sym (pass_once h)) ∙ sym (eqb-true n 2 e)
    second false e h = third (eqb n 3) refl h

    first : (b : Bool) → eqb n 1 ≡ b → kind_number k ≡ n
    first true e = ap kind_number (sym (pass_once (rw e at h))) ∙ sym (eqb-true n 1 e)
    first false e = second (eqb n 2) refl (rw e at h)
