-- The theorems on the sheets of a number. h and v are what the rules say of them (`in_rules_form`), and the sentence holds on each sheet (`holds_on_each`).
-- The root is what the last sheet comes to, on every input (`answers_from_last`), and its rounded digits, moved up by h + 1, are the root in steps (`root_in_steps`). And `shown` is one to one (`shown_once`), so that the contract has one answer.
use mathlib.Core.Path.{◌≡◌, refl, sym, ap, ap₂, ◌∙◌, subst}
use mathlib.Core.Bool.{Bool, true, false}
use Prim.Native.Nat.{ℕ, min, ◌+◌, ◌*◌, ◌^◌, ◌<◌}
use native.Mathlib.Omega.{arith}
use lib.Dec.{T}
use lib.Ieee.{Float, binary64, fits, lt, eq, of_bits}
use Rattle.std.specs.Prelude.{Option, Some, None, Result, Ok, Err}
use Rattle.coincidence.specs.Coincidence.{OneToOne}
use Rattle.coincidence.proofs.Laws.{undone}
use Rattle.exact.specs.Numbers.{nought, is_finite, Number, steps}
use Rattle.exact.proofs.Basics.{passed}
use Rattle.root.specs.declared.Sheet.{Sheet}
use Rattle.root.specs.declared.Reason.{Reason}
use Rattle.root.specs.Said as said
use Rattle.root.specs.Form.{InForm}
use Rattle.root.specs.Whole.{IsWholeRoot}
use Rattle.root.specs.Root.{nearest_root, root_of}
use Rattle.root.specs.Paper.{half_of, whole_of, after_turns, OnPaper, rounded_of, word_from, Shown, sheet, zero_itself, refused, shown, sheet_of, root_from}
use Rattle.root.proofs.Whole.{whole_root_unique}
use Rattle.root.proofs.Form.{half_is, whole_is}
use Rattle.root.proofs.Shape.{written, is_nearest_root}
use Rattle.root.proofs.Paper.{left_after, after_holds, last_is_root}
use Rattle.root.proofs.Cases.{refuses_not_finite, refuses_below_zero, keeps_zero, finds_root, above_zero, some_form, shape, shows_sheet, shows_zero, shows_refused}
use Rattle.root.proofs.Theorems.{reason_from, reason_is}

-- ---- a number above zero

module _ (x : Float) (h : T (fits binary64 x)) (finite : is_finite x ≡ true) (below : lt x nought ≡ false) (zero : eq x nought ≡ false) where
  number : Number binary64 x
  number = (h, passed finite)

  -- The root on paper 1: the division leaves nothing over, and v has 53 or 54 digits
  pub in_rules_form : InForm (steps binary64 x) (whole_of (steps binary64 x)) (half_of (steps binary64 x))
  in_rules_form =
      let f = some_form x number (above_zero x number below zero) in
      rw (← whole_is (steps binary64 x) f.0 f.1 f.2, ← half_is (steps binary64 x) f.0 f.1 f.2) f.2

  room : whole_of (steps binary64 x) < 2 ^ 54
  room = omega (arith, in_rules_form.most)

  -- the digits of the last sheet are the whole root
  last_whole : IsWholeRoot (whole_of (steps binary64 x) * 2 ^ 54) (after_turns (whole_of (steps binary64 x)) 54).digits
  last_whole = let v = whole_of (steps binary64 x) in last_is_root (after_turns v 54) (after_holds v 54 room (omega arith)) (left_after v 54)

  last : nearest_root x ≡ of_bits binary64 (word_from (half_of (steps binary64 x)) (after_turns (whole_of (steps binary64 x)) 54).digits)
  last = let u = steps binary64 x in sym (is_nearest_root x _ h (written x (whole_of u) (half_of u) (after_turns (whole_of u) 54).digits in_rules_form last_whole))

  -- The root on paper 6: the rounded digits, times 2 ^ (h + 1), are the root in steps
  pub root_in_steps : steps binary64 (nearest_root x) ≡ rounded_of (after_turns (whole_of (steps binary64 x)) 54).digits * 2 ^ (half_of (steps binary64 x) + 1)
  root_in_steps =
      let u = steps binary64 x in
      let a = shape x number (above_zero x number below zero) in
      let whole : IsWholeRoot (whole_of u * 2 ^ 54) a.s = subst (λ (v : ℕ). IsWholeRoot (v * 2 ^ 54) a.s) (whole_is u a.v a.h a.form) a.whole in
      a.is ∙ ap₂ (λ (s h : ℕ). rounded_of s * 2 ^ (h + 1)) (whole_root_unique whole last_whole) (half_is u a.v a.h a.form)

-- ---- every number

-- what is refused, what is zero, and what is above zero
by_cases : (x : Float) {A : Type 0} → ((k : ℕ) → root_of x ≡ said.refused k → A) → (root_of x ≡ said.root x → eq x nought ≡ true → A) → (is_finite x ≡ true → lt x nought ≡ false → eq x nought ≡ false → A) → A
by_cases x {A} refuses is_zero above = go (is_finite x) (lt x nought) (eq x nought) refl refl refl
  where
    go : (k l z : Bool) → is_finite x ≡ k → lt x nought ≡ l → eq x nought ≡ z → A
    go false l z e f g = refuses 1 (refuses_not_finite x e)
    go true true z e f g = refuses 13 (refuses_below_zero x e f)
    go true false true e f g = is_zero (keeps_zero x e f g) g
    go true false false e f g = above e f g

-- The root on paper 6 and 7: what the last sheet comes to is the root
pub answers_from_last : (x : Float) → T (fits binary64 x) → root_of x ≡ root_from x (sheet_of x 54)
answers_from_last x h =
    by_cases x
    (λ k e. e ∙ sym (ap (root_from x) (shows_refused x 54 e)))
    (λ e z. e ∙ sym (ap (root_from x) (shows_zero x 54 e z)))
    (λ e f g. let r = finds_root x e f g in r ∙ ap said.root (last x h e f g) ∙ sym (ap (root_from x) (shows_sheet x 54 r g)))

-- something that holds where a sheet is shown
abbrev OfSheet : (Sheet → Type 0) → Shown → Type 0
OfSheet P (sheet s) = P s
OfSheet P zero_itself = Unit {0}
OfSheet P (refused k) = Unit {0}

-- it holds of the sheet after n turns where it does for a number above zero
of_sheet : (P : Sheet → Type 0) (x : Float) (n : ℕ) → (is_finite x ≡ true → lt x nought ≡ false → eq x nought ≡ false → P (after_turns (whole_of (steps binary64 x)) (min n 54))) → OfSheet P (sheet_of x n)
of_sheet P x n holds =
    by_cases x (λ k e. shows (shows_refused x n e) tt) (λ e z. shows (shows_zero x n e z) tt) (λ e f g. shows (shows_sheet x n (finds_root x e f g) g) (holds e f g))
  where
    shows : {a : Shown} → sheet_of x n ≡ a → OfSheet P a → OfSheet P (sheet_of x n)
    shows e = subst (OfSheet P) (sym e)

-- The root on paper 5: the sentence holds on each sheet of each number
pub holds_on_each : (x : Float) → T (fits binary64 x) → (n : ℕ) (s : Sheet) → sheet_of x n ≡ sheet s → OnPaper (whole_of (steps binary64 x)) s
holds_on_each x h n s is =
    let v = whole_of (steps binary64 x) in
    subst (OfSheet (OnPaper v)) is (of_sheet (OnPaper v) x n (λ e f g. after_holds v (min n 54) (room x h e f g) (omega arith)))

-- what is shown is no two things
is_sheet : Shown → Type 0
is_sheet (sheet s) = Unit {0}
is_sheet zero_itself = ⊥
is_sheet (refused k) = ⊥

pub never_zero : {s : Sheet} → sheet s ≡ zero_itself → ⊥
unfolding is_sheet
never_zero e = subst is_sheet e tt

pub never_refused : {s : Sheet} {k : ℕ} → sheet s ≡ refused k → ⊥
unfolding is_sheet
never_refused e = subst is_sheet e tt

pub one_shown : {s r : Sheet} → sheet s ≡ sheet r → s ≡ r
one_shown e = cc

-- a number that has one sheet has all of them
pub has_each : (x : Float) (m n : ℕ) (s : Sheet) → sheet_of x m ≡ sheet s → sheet_of x n ≡ sheet (after_turns (whole_of (steps binary64 x)) (min n 54))
has_each x m n s is =
    let P : Sheet → Type 0 = λ r. sheet_of x n ≡ sheet (after_turns (whole_of (steps binary64 x)) (min n 54)) in
    subst (OfSheet P) is (of_sheet P x m (λ e f g. shows_sheet x n (finds_root x e f g) g))

-- ---- no two answers show the same: what they show can be undone

abbrev unshown : Shown → Result (Option Sheet) Reason
unshown (sheet s) = Ok (Some s)
unshown zero_itself = Ok None
unshown (refused k) = Err (reason_from k)

unshown_is : (a : Result (Option Sheet) Reason) → unshown (shown a) ≡ a
unshown_is (Ok (Some s)) = refl
unshown_is (Ok None) = refl
unshown_is (Err why) = ap Err (reason_is why)

pub shown_once : OneToOne shown
shown_once = undone shown unshown unshown_is
