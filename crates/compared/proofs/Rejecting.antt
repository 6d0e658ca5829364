-- Answers of other crates with the number of their refusal, as a card is rejected with it: an Option where ok_or names the number, and a Result
-- where map_err takes the number of its reason.
use mathlib.Core.Path.{◌≡◌, refl, sym, ap}
use Prim.Native.Nat.{ℕ}
use Rattle.std.specs.Prelude.{Option, Some, None, Result, Ok, Err}
use Rattle.std.specs.Option.{ok_or}
use Rattle.std.specs.Result.{MatchResult, IsErrAnd}
use Rattle.std.proofs.lemmas.Result.{err_from_is_err_and}
use Rattle.rows.specs.Rows.{checked, stated}
use Rattle.compared.specs.Said.{by_number}

pub or_rejected : {A : Type 0} (k : ℕ) (o : Option A) → stated k o ≡ by_number (ok_or o k)
or_rejected k (Some x) = refl
or_rejected k None = refl

pub rejected_by : {A E : Type 0} (number : E → ℕ) (r : Result A E) (m : Result A ℕ) → MatchResult r (λ x. m ≡ Ok x) (λ e. IsErrAnd m (λ k. k ≡ number e)) → checked number r ≡ by_number m
rejected_by number (Ok x) m h = sym (ap by_number h)
rejected_by number (Err e) m h = let p = err_from_is_err_and m h in rw (p.1, p.2) refl
