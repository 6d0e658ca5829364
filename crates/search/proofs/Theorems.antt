-- What a step says can be undone, so `said` is one to one, and the contract of `next` has one answer. So can what an outcome says, where a
-- number names one reason (`answered_once`): it says the same of no two.
use mathlib.Core.Path.{◌≡◌, refl, sym, ap, ap₂}
use mathlib.Core.Bool.{true≢false}
use Prim.Native.Nat.{ℕ}
use lib.Ieee.{Float}
use Rattle.std.specs.Prelude.{Option, Some, None, Ok, Err}
use Rattle.coincidence.specs.Coincidence.{OneToOne}
use Rattle.coincidence.proofs.Laws.{undone}
use Rattle.search.specs.declared.Solution.{Solution}
use Rattle.search.specs.declared.Refusal.{Refusal}
use Rattle.search.specs.Said.{Try, guess, no_guess, said}
use Rattle.search.specs.Answers.{answered}

abbrev unsaid : Try → Option Float
unsaid (guess x) = Some x
unsaid no_guess = None

unsaid_is : (a : Option Float) → unsaid (said a) ≡ a
unsaid_is (Some x) = refl
unsaid_is None = refl

pub said_once : OneToOne said
said_once = undone said unsaid unsaid_is

abbrev solution : {A : Type 0} → Float → ℕ → A → Solution A
solution x n found = record { x = x; count = n; found = found }

abbrev refusal : {W : Type 0} → W → ℕ → Option (Float × Float) → Refusal W
refusal why n ends = record { why = why; count = n; ends = ends }

same_solution : {A : Type 0} {x y : Float} {m n : ℕ} {a b : A} → x ≡ y → m ≡ n → a ≡ b → solution x m a ≡ solution y n b
same_solution p q r = rw (p, q, r) refl

same_refusal : {W : Type 0} {v w : W} {m n : ℕ} {a b : Option (Float × Float)} → v ≡ w → m ≡ n → a ≡ b → refusal v m a ≡ refusal w n b
same_refusal p q r = rw (p, q, r) refl

module _ {A W : Type 0} (number : W → ℕ) (named : OneToOne number) where
  -- a refusal, by the number of its reason
  refused_once : (v w : W) (m n : ℕ) (p q : Option (Float × Float)) → answered {A = A} number (Err (refusal v m p)) ≡ answered number (Err (refusal w n q)) → refusal v m p ≡ refusal w n q
  refused_once v w m n None None e = same_refusal (named v w (cc)) (cc) refl
  refused_once v w m n None (Some q) e = absurd (true≢false cc)
  refused_once v w m n (Some p) None e = absurd (true≢false cc)
  refused_once v w m n (Some p) (Some q) e = same_refusal (named v w (cc)) (cc) (same_ends p q (cc) (cc))
    where
      same_ends : (p q : Float × Float) → p.0 ≡ q.0 → p.1 ≡ q.1 → Some p ≡ Some q
      same_ends (a, b) (x, y) f g = ap₂ (λ lo hi. Some (lo, hi)) f g

  -- what is solved is no refusal
  not_refused : (s : Solution A) (v : W) (n : ℕ) (ends : Option (Float × Float)) → answered {A = A} number (Ok s) ≡ answered number (Err (refusal v n ends)) → ⊥
  not_refused s v n None e = true≢false cc
  not_refused s v n (Some ends) e = true≢false cc

  pub answered_once : OneToOne (answered {A = A} number)
  answered_once (Ok s) (Ok t) e = ap Ok (same_solution (cc) (cc) (cc))
  answered_once (Ok s) (Err t) e = absurd (not_refused s t.why t.count t.ends e)
  answered_once (Err r) (Ok t) e = absurd (not_refused t r.why r.count r.ends (sym e))
  answered_once (Err r) (Err t) e = ap Err (refused_once r.why t.why r.count t.count r.ends t.ends e)
