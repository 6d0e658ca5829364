-- Laws of rows of tests: what a row that passes says of each of its tests, and what each number has with which one can refuse.
use mathlib.Core.Path.{◌≡◌, refl, subst, ap}
use mathlib.Core.Bool.{Bool, true, false, cond, true≢false, ◌&&◌}
use Prim.Native.Nat.{ℕ, ◌<◌}
use lib.Dec.{T, ltb, ltb→lt}
use lib.Ieee.Fits.{and_l, and_r}
use Rattle.std.specs.Prelude.{Option, Some, None, Result, Ok, Err}
use Rattle.coincidence.specs.Coincidence.{OneToOne}
use Rattle.coincidence.proofs.Laws.{undone}
use Rattle.rows.specs.Rows.{Checked, pass, refuse, must, renumbered, onward, checked, stated}

pub pass_once : {A : Type 0} {x y : A} → ◌≡◌ {A = Checked A} (pass x) (pass y) → x ≡ y
pass_once e = cc

-- a test that let something pass held, and so did the rest
pub test_passed : {A : Type 0} (t : Bool) (k : ℕ) (rest : Checked A) {x : A} → must t k rest ≡ pass x → (t ≡ true) × (rest ≡ pass x)
unfolding must
test_passed true k rest e = (refl, e)
test_passed false k rest e = absurd (true≢false cc)

-- a row of tests after another passes where the first one did
pub rows_passed : {A B : Type 0} (m : Checked A) (rest : A → Checked B) {y : B} → onward m rest ≡ pass y → (x : A) × (m ≡ pass x) × (rest x ≡ pass y)
unfolding onward
rows_passed (pass x) rest e = (x, refl, e)
rows_passed (refuse k) rest e = absurd (true≢false cc)

-- under another number a row passes where it did
pub renumbered_passed : {A : Type 0} (k : ℕ) (m : Checked A) {x : A} → renumbered k m ≡ pass x → m ≡ pass x
renumbered_passed k (pass x) e = e
renumbered_passed k (refuse j) e = absurd (true≢false cc)

-- two rows behind another are the same where they are for all that the first lets pass
pub onward_same : {A B : Type 0} (m : Checked A) (rest also : A → Checked B) → ((x : A) → m ≡ pass x → rest x ≡ also x) → onward m rest ≡ onward m also
unfolding onward
onward_same (pass x) rest also same = same x refl
onward_same (refuse k) rest also same = refl

-- a row that goes on without a test refuses where the first one did
pub row_refused : {A B : Type 0} (m : Checked A) (value : A → B) {k : ℕ} → onward m (λ x. pass (value x)) ≡ refuse k → m ≡ refuse k
unfolding onward
row_refused (pass x) value e = absurd (true≢false cc)
row_refused (refuse n) value e = cc

-- what a row came to, taken back: to what passed, or to what has the number
abbrev pub taken_back : {A B : Type 0} → (B → A) → (ℕ → A) → Checked B → A
taken_back passed failed (pass x) = passed x
taken_back passed failed (refuse k) = failed k

-- so an answer of the code says one thing, where its reasons have one number each, and where there is one refusal alone
pub checked_once : {A E : Type 0} (number : E → ℕ) (back : ℕ → E) → ((why : E) → back (number why) ≡ why) → OneToOne (checked {A = A} number)
checked_once {A} {E} number back is = undone (checked number) (taken_back Ok (λ k. Err (back k))) again
  where
    again : (a : Result A E) → taken_back Ok (λ k. Err (back k)) (checked number a) ≡ a
    again (Ok x) = refl
    again (Err why) = ap Err (is why)

pub stated_once : {A : Type 0} (k : ℕ) → OneToOne (stated {A = A} k)
stated_once {A} k = undone (stated k) (taken_back Some (λ j. None)) again
  where
    again : (a : Option A) → taken_back Some (λ j. None) (stated k a) ≡ a
    again (Some x) = refl
    again None = refl

-- a row of tests that passes, or refuses with a number that has P
pub data Refuses {A : Type 0} (P : ℕ → Type 0) : Checked A → Type 0 where
  passes : {x : A} → Refuses P (pass x)
  refuses : {k : ℕ} → P k → Refuses P (refuse k)

-- a number above a and below b, as a test that antt decides of numerals
abbrev pub Between : (a b k : ℕ) → Type 0
Between a b k = T (ltb a k && ltb k b)

pub between_is : (a b k : ℕ) → Between a b k → (a < k) × (k < b)
between_is a b k t = (ltb→lt a k (and_l (ltb a k) (ltb k b) t), ltb→lt k b (and_r (ltb a k) (ltb k b) t))

module _ {A : Type 0} {P : ℕ → Type 0} where
  pub must_refuses : (t : Bool) (k : ℕ) (rest : Checked A) → P k → Refuses P rest → Refuses P (must t k rest)
  unfolding must
  must_refuses true k rest p r = r
  must_refuses false k rest p r = refuses p

  pub renumbered_refuses : (k : ℕ) (m : Checked A) → P k → Refuses P (renumbered k m)
  renumbered_refuses k (pass x) p = passes
  renumbered_refuses k (refuse j) p = refuses p

  pub cond_refuses : (t : Bool) (m n : Checked A) → Refuses P m → Refuses P n → Refuses P (cond t m n)
  cond_refuses true m n p q = p
  cond_refuses false m n p q = q

  pub onward_refuses : {B : Type 0} (m : Checked B) (rest : B → Checked A) → Refuses P m → ((x : B) → Refuses P (rest x)) → Refuses P (onward m rest)
  unfolding onward
  onward_refuses (pass x) rest p r = r x
  onward_refuses (refuse k) rest (refuses p) r = refuses p

  pub refusal_has : {m : Checked A} {k : ℕ} → Refuses P m → m ≡ refuse k → P k
  refusal_has passes e = absurd (true≢false cc)
  refusal_has (refuses p) e = subst P (cc) p
