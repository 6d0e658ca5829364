-- The answer of a search, whatever is searched for and made of it: RULES, The search, and Refusal numbers, notes b and c. Definitions only.
use Rattle.std.specs.Prelude.{ℕ, Float, Option, Some, None, Result, Ok, Err}
use Rattle.rows.specs.Rows.{Checked, pass, refuse}
use Rattle.search.specs.declared.Bracket.{Bracket}
use Rattle.search.specs.declared.Solution.{Solution}
use Rattle.search.specs.declared.Refusal.{Refusal}
use Rattle.search.specs.Said as end
use Rattle.search.specs.Search.{search_of}

-- notes b and c: the three cases of an answer. Solved has the unknown, the count and what was found there; a refusal its number and count, and
-- with 9 and 10 the bracket's two ends
pub data Answer (A : Type 0) : Type 0 where
  solved : Float → ℕ → A → Answer A
  refused : ℕ → ℕ → Answer A
  refused_with_bracket : ℕ → ℕ → Float → Float → Answer A

-- a refusal, which names the bracket's ends where it has them
abbrev pub refused_with : {A : Type 0} → (k n : ℕ) → Option (Float × Float) → Answer A
refused_with k n None = refused k n
refused_with k n (Some ends) = refused_with_bracket k n ends.0 ends.1

-- what an outcome says, where its reasons have these numbers
abbrev pub answered : {A W : Type 0} → (number : W → ℕ) → Result (Solution A) (Refusal W) → Answer A
answered number (Ok s) = solved s.x s.count s.found
answered number (Err r) = refused_with (number r.why) r.count r.ends

-- a solution, where what is found at x is allowed; else its refusal
abbrev pub with_found : {A : Type 0} → (x : Float) (n : ℕ) → Checked A → Answer A
with_found x n (pass found) = solved x n found
with_found x n (refuse k) = refused k n

-- what the end of a search comes to, where `find` is what is found at x: 2, at a guess near the wanted time; 9 and 10 with the bracket; 6
abbrev pub answer_of : {A : Type 0} → (find : Float → Checked A) → end.Ending → Answer A
answer_of find (end.solved x n) = with_found x n (find x)
answer_of find (end.closed b n) = refused_with_bracket 9 n b.lo.x b.hi.x
answer_of find (end.spent b n) = refused_with_bracket 10 n b.lo.x b.hi.x
answer_of find (end.lost n) = refused 6 n

-- what passes the tests before the first guess is searched, with its time and wanted time; where they refuse, the count is 0
abbrev pub answer_from : {S A : Type 0} → (time : S → Float → Float) (wanted : S → Float) (find : S → Float → Checked A) (limit : ℕ) → Checked (S × Bracket) → Answer A
answer_from time wanted find limit (pass e) = answer_of (find e.0) (search_of (time e.0) (wanted e.0) limit e.1)
answer_from time wanted find limit (refuse k) = refused k 0
