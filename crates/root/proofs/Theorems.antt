-- The theorems on the root. The definition's root has the property that the rules state (`definition_holds`): it is the nearest among
-- all finite binary64 numbers, by comparing squares. Two results with the property coincide (`one_root`). So contract and property are
-- the same statement, on every input (`contract_is_property`). And `said` is one to one (`said_once`), so that the contract has one answer.
use mathlib.Core.Path.{◌≡◌, refl, sym, ap, ◌∙◌, subst}
use mathlib.Core.Logic.{◌↔◌}
use mathlib.Core.Bool.{Bool, true, false, cond}
use Prim.Native.Nat.{ℕ, ◌*◌, ◌<◌}
use native.Mathlib.Nat.{lt_trans, lt_irrefl, add_comm}
use native.Mathlib.Omega.{arith}
use lib.Dec.{T, eqb}
use lib.Ieee.{Float, nan, inf, fin, binary64, fits, lt, eq, of_bits}
use lib.Ieee.Bits.{is_true, is_false}
use Rattle.std.specs.Prelude.{Result, Ok, Err}
use Rattle.coincidence.specs.Coincidence.{OneToOne}
use Rattle.coincidence.proofs.Laws.{undone}
use Rattle.exact.specs.Numbers.{nought, is_finite, is_minus, steps}
use Rattle.exact.proofs.Basics.{passed, failed}
use Rattle.exact.proofs.Steps.{same_number}
use Rattle.exact.proofs.Order.{plus_lt, above_alone, equal_alone, lt_of_neither}
use Rattle.exact.proofs.Zero.{nought_number, positive_is}
use Rattle.root.specs.declared.Reason.{Reason}
use Rattle.root.specs.declared.Reason.TheVariants.{NotFinite, BelowZero}
use Rattle.root.specs.Said.{Said, root, refused, reason_number, said}
use Rattle.root.specs.Root.{radicand, sum_in_steps, nearest_root, root_of, Nearest, IsRoot}
use Rattle.root.proofs.Cases.{refuses_not_finite, refuses_below_zero, keeps_zero, finds_root, shape}
use Rattle.root.proofs.Nearest.{is_nearest}

-- ---- the definition has the property

-- what equals zero is finite
zero_finite : (x : Float) → T (eq x nought) → T (is_finite x)
unfolding eq of_bits
zero_finite nan z = absurd z
zero_finite (inf s) z = absurd z
zero_finite (fin s m e) z = tt

pub definition_holds : (x : Float) → T (fits binary64 x) → IsRoot x (root_of x)
definition_holds x h = record {
  not_finite = λ n. refuses_not_finite x (is_false (is_finite x) n);
  below_zero = λ k b. refuses_below_zero x (is_true (is_finite x) k) (is_true (lt x nought) b);
  at_zero = λ z. keeps_zero x (is_true (is_finite x) (zero_finite x z)) (is_false (lt x nought) (equal_alone binary64 x nought (h, zero_finite x z) nought_number z)) (is_true (eq x nought) z);
  above_zero = λ k p.
      let alone = above_alone binary64 x nought (h, k) nought_number p in
      (nearest_root x, finds_root x (is_true (is_finite x) k) (is_false (lt x nought) alone.0) (is_false (eq x nought) alone.1), is_nearest x (nearest_root x) (shape x (h, k) ((positive_is x (h, k)).0 p)));
}

-- ---- one result has it

module _ (x r t : Float) (a : Nearest x r) (b : Nearest x t) where
  r_plus : is_minus r ≡ false
  r_plus = ((positive_is r a.number).0 a.positive).0

  t_plus : is_minus t ≡ false
  t_plus = ((positive_is t b.number).0 b.positive).0

  -- the middle of the two is one number
  sum_symmetric : sum_in_steps r t ≡ sum_in_steps t r
  unfolding sum_in_steps
  sum_symmetric = rw (r_plus, t_plus) (add_comm (steps binary64 t) (steps binary64 r))

  -- which cannot lie both below the root and above it
  not_lower : steps binary64 r < steps binary64 t → ⊥
  not_lower l =
      let low = (plus_lt binary64 r t a.number b.number r_plus t_plus).1 l in
      let below : sum_in_steps t r * sum_in_steps t r < 4 * radicand x = subst (λ (n : ℕ). n * n < 4 * radicand x) sum_symmetric (b.below r a.number low) in
      lt_irrefl (4 * radicand x) (lt_trans (a.above t b.number low) below)

pub one_nearest : (x r t : Float) → Nearest x r → Nearest x t → r ≡ t
one_nearest x r t a b =
    same_number binary64 r t a.number b.number (r_plus x r t a b ∙ sym (t_plus x r t a b)) (neither (steps binary64 r) (steps binary64 t) (not_lower x r t a b) (not_lower x t r b a))
  where
    neither : (m n : ℕ) → (m < n → ⊥) → (n < m → ⊥) → m ≡ n
    neither m n h k = omega arith

pub one_root : (x : Float) (s t : Said) → T (fits binary64 x) → IsRoot x s → IsRoot x t → s ≡ t
one_root x s t h a b = go (is_finite x) (lt x nought) (eq x nought) refl refl refl
  where
    go : (k l z : Bool) → is_finite x ≡ k → lt x nought ≡ l → eq x nought ≡ z → s ≡ t
    go false l z e f g = a.not_finite (failed e) ∙ sym (b.not_finite (failed e))
    go true true z e f g = a.below_zero (passed e) (passed f) ∙ sym (b.below_zero (passed e) (passed f))
    go true false true e f g = a.at_zero (passed g) ∙ sym (b.at_zero (passed g))
    go true false false e f g =
        let p = lt_of_neither binary64 x nought (h, passed e) nought_number (failed f) (failed g) in
        let u = a.above_zero (passed e) p in
        let v = b.above_zero (passed e) p in
        u.1 ∙ ap root (one_nearest x u.0 v.0 u.2 v.2) ∙ sym v.1

-- ---- the contract and the property

pub contract_is_property : (x : Float) → T (fits binary64 x) → (s : Said) → (s ≡ root_of x) ↔ IsRoot x s
contract_is_property x h s = ((λ e. subst (IsRoot x) (sym e) (definition_holds x h)), λ a. one_root x s (root_of x) h a (definition_holds x h))

-- ---- no two answers say the same: what they say can be undone

abbrev pub reason_from : ℕ → Reason
reason_from k = cond (eqb k 1) NotFinite BelowZero

pub reason_is : (why : Reason) → reason_from (reason_number why) ≡ why
reason_is NotFinite = refl
reason_is BelowZero = refl

abbrev unsaid : Said → Result Float Reason
unsaid (root x) = Ok x
unsaid (refused k) = Err (reason_from k)

unsaid_is : (a : Result Float Reason) → unsaid (said a) ≡ a
unsaid_is (Ok x) = refl
unsaid_is (Err why) = ap Err (reason_is why)

pub said_once : OneToOne said
said_once = undone said unsaid unsaid_is
