-- The laws of a search's answers, for any unknown, time, wanted time and finding. A guess is counted, and before the first one the count is 0
-- (`refused_before`, `counts`). The number of a refusal is 9 or 10 where it names a bracket, and else one of the tests', of the finding's, or 6
-- (`refusal_numbered`). From a fair bracket, solved means near, finite and in the starting bracket, with what is found there (`solved_means`).
-- A bracket that is named lies in the starting one; the times of its ends are finite, the lower one at most the wanted time and the upper one
-- at least (`bracket_means`); the times kept beside the ends are theirs (`times_kept`). Another time and finding, which are the same in the
-- starting bracket, have the same answer (`same_answer`).
use mathlib.Core.Path.{◌≡◌, refl, ap, ◌∙◌, subst}
use mathlib.Core.Logic.{◌⊎◌, inl, inr}
use mathlib.Core.Bool.{true, false}
use Prim.Native.Nat.{ℕ, ◌≤◌}
use lib.Dec.{T}
use lib.Ieee.{Float, binary64, fits, lt, le}
use lib.Ieee.Bits.{is_true}
use Rattle.exact.specs.Numbers.{is_finite, Number, is_near}
use Rattle.exact.proofs.Basics.{passed, failed}
use Rattle.exact.proofs.Order.{le_of_not_lt}
use Rattle.rows.specs.Rows.{Checked, pass, refuse}
use Rattle.rows.proofs.Laws.{Refuses, refusal_has}
use Rattle.search.specs.declared.Bracket.{Bracket}
use Rattle.search.specs.Said as end
use Rattle.search.specs.Search.{search_of}
use Rattle.search.specs.Answers.{Answer, solved, refused, refused_with_bracket, with_found, answer_of, answer_from}
use Rattle.search.proofs.Hunt.{Names}
use Rattle.search.proofs.Count as count
use Rattle.search.proofs.Laws.{In, Starts, solved_near, solved_in, named_kept, named_ends, named_finite, same_search}

-- a bracket that a search may start from: the first guess lies in it, its ends' times are finite, the wanted time is not outside them, and the
-- times kept for the ends are theirs
pub record Fair (time : Float → Float) (t : Float) (b : Bracket) : Type 0 where
  pub starts : Starts t b
  pub time_fits : (x : Float) → T (fits binary64 (time x))
  pub t_number : Number binary64 t
  pub lo_finite : is_finite (time b.lo.x) ≡ true
  pub hi_finite : is_finite (time b.hi.x) ≡ true
  pub lo_time : lt t (time b.lo.x) ≡ false
  pub hi_time : lt (time b.hi.x) t ≡ false
  pub lo_kept : b.lo.time ≡ time b.lo.x
  pub hi_kept : b.hi.time ≡ time b.hi.x

-- ---- parts of an answer

abbrev pub guesses_in : {A : Type 0} → Answer A → ℕ
guesses_in (solved x n found) = n
guesses_in (refused k n) = n
guesses_in (refused_with_bracket k n lo hi) = n

-- what an answer says of its number, if it is a refusal: P where it names no bracket, and Q where it names one
abbrev pub RefusalHas : {A : Type 0} → (P Q : ℕ → Type 0) → Answer A → Type 0
RefusalHas P Q (solved x n found) = Unit
RefusalHas P Q (refused k n) = P k
RefusalHas P Q (refused_with_bracket k n lo hi) = Q k

-- what it says, if it is solved
abbrev IfSolved : {A : Type 0} → (Float → A → Type 0) → Answer A → Type 0
IfSolved P (solved x n found) = P x found
IfSolved P (refused k n) = Unit
IfSolved P (refused_with_bracket k n lo hi) = Unit

-- and if it names a bracket
abbrev IfNamed : {A : Type 0} → ((k n : ℕ) (lo hi : Float) → Type 0) → Answer A → Type 0
IfNamed P (solved x n found) = Unit
IfNamed P (refused k n) = Unit
IfNamed P (refused_with_bracket k n lo hi) = P k n lo hi

-- ---- at the end of a search

-- what is found, or refused there, has the number of the refusal
pub found_numbered : {A : Type 0} {P : ℕ → Type 0} (Q : ℕ → Type 0) (x : Float) (n : ℕ) (c : Checked A) → Refuses P c → RefusalHas P Q (with_found x n c)
found_numbered Q x n (pass found) r = tt
found_numbered Q x n (refuse k) r = refusal_has r refl

module _ {A : Type 0} (find : Float → Checked A) where
  found_count : (x : Float) (n : ℕ) (c : Checked A) → guesses_in (with_found x n c) ≡ n
  found_count x n (pass found) = refl
  found_count x n (refuse k) = refl

  end_count : (e : end.Ending) → guesses_in (answer_of find e) ≡ count.guesses_in e
  end_count (end.solved x n) = found_count x n (find x)
  end_count (end.closed b n) = refl
  end_count (end.spent b n) = refl
  end_count (end.lost n) = refl

  module _ {P : ℕ → Type 0} (Q : ℕ → Type 0) where
    end_numbered : P 6 → Q 9 → Q 10 → ((x : Float) → Refuses P (find x)) → (e : end.Ending) → RefusalHas P Q (answer_of find e)
    end_numbered six nine ten r (end.solved x n) = found_numbered Q x n (find x) (r x)
    end_numbered six nine ten r (end.closed b n) = nine
    end_numbered six nine ten r (end.spent b n) = ten
    end_numbered six nine ten r (end.lost n) = six

  found_solves : (P : Float → A → Type 0) (x : Float) (n : ℕ) (c : Checked A) → ((found : A) → c ≡ pass found → P x found) → IfSolved P (with_found x n c)
  found_solves P x n (pass found) is = is found refl
  found_solves P x n (refuse k) is = tt

  found_names : (P : (k n : ℕ) (lo hi : Float) → Type 0) (x : Float) (n : ℕ) (c : Checked A) → IfNamed P (with_found x n c)
  found_names P x n (pass found) = tt
  found_names P x n (refuse k) = tt

-- ---- what a solution and a named bracket are

pub record IsSolved {S A : Type 0} (time : S → Float → Float) (wanted : S → Float) (find : S → Float → Checked A) (e : Checked (S × Bracket)) (x : Float) (found : A) : Type 0 where
  pub o : S
  pub start : Bracket
  pub entry : e ≡ pass (o, start)
  pub in_start : In start x
  pub finite : is_finite (time o x) ≡ true
  pub near : is_near (time o x) (wanted o) ≡ true
  pub finding : find o x ≡ pass found

pub record IsNamed {S : Type 0} (time : S → Float → Float) (wanted : S → Float) (limit : ℕ) (e : Checked (S × Bracket)) (k n : ℕ) (lo hi : Float) : Type 0 where
  pub o : S
  pub start : Bracket
  pub entry : e ≡ pass (o, start)
  pub number : (k ≡ 9) ⊎ ((k ≡ 10) × (n ≡ limit))
  pub lo_in : In start lo
  pub hi_in : In start hi
  pub in_order : le lo hi ≡ true
  pub lo_finite : is_finite (time o lo) ≡ true
  pub hi_finite : is_finite (time o hi) ≡ true
  -- T at the lower end is not above t, and T at the upper end not below; between finite times that is ≤
  pub lo_time : lt (wanted o) (time o lo) ≡ false
  pub hi_time : lt (time o hi) (wanted o) ≡ false
  pub lo_at_most : le (time o lo) (wanted o) ≡ true
  pub hi_at_least : le (wanted o) (time o hi) ≡ true

-- of numbers, what is not above is at most
at_most : (x y : Float) → Number binary64 x → Number binary64 y → lt x y ≡ false → le y x ≡ true
at_most x y h k e = is_true (le y x) (le_of_not_lt binary64 x y h k (failed e))

-- ---- the laws

module _ {S A : Type 0} (time : S → Float → Float) (wanted : S → Float) (find : S → Float → Checked A) (limit : ℕ) (e : Checked (S × Bracket)) where
  abbrev answer : Answer A
  answer = answer_from time wanted find limit e

  pub refused_before : (k : ℕ) → e ≡ refuse k → answer ≡ refused k 0
  refused_before k h = ap (answer_from time wanted find limit) h

  -- every answer comes from the tests or from the end of a search
  by_origin : (P : Answer A → Type 0) → ((k : ℕ) → e ≡ refuse k → P (refused k 0)) → ((o : S) (b : Bracket) → e ≡ pass (o, b) → (n : end.Ending) → search_of (time o) (wanted o) limit b ≡ n → P (answer_of (find o) n)) → P answer
  by_origin P at_entry_lem at-end = go e refl
    where
      go : (m : Checked (S × Bracket)) → e ≡ m → P (answer_from time wanted find limit m)
      go (pass (o, b)) h = at-end o b h (search_of (time o) (wanted o) limit b) refl
      go (refuse k) h = at_entry_lem k h

  pub refusal_numbered : {P : ℕ → Type 0} (Q : ℕ → Type 0) → P 6 → Q 9 → Q 10 → Refuses P e → ((o : S) (x : Float) → Refuses P (find o x)) → RefusalHas P Q answer
  refusal_numbered {P} Q six nine ten r f = by_origin (RefusalHas P Q) (λ k h. refusal_has r h) (λ o b h n s. end_numbered (find o) Q six nine ten (f o) n)

  module _ (least : (o : S) (b : Bracket) → e ≡ pass (o, b) → 1 ≤ limit) where
    pub counts : (o : S) (b : Bracket) → e ≡ pass (o, b) → (1 ≤ guesses_in answer) × (guesses_in answer ≤ limit)
    counts o b h = rw (h, end_count (find o) (search_of (time o) (wanted o) limit b)) (count.search_counts (time o) (wanted o) limit b (least o b h))

    module _ (fair : (o : S) (b : Bracket) → e ≡ pass (o, b) → Fair (time o) (wanted o) b) where
      pub times_kept : (o : S) (b : Bracket) → e ≡ pass (o, b) → (new : Bracket) → Names (search_of (time o) (wanted o) limit b) new → (new.lo.time ≡ time o new.lo.x) × (new.hi.time ≡ time o new.hi.x)
      times_kept o b h new w = let f = fair o b h in named_ends (time o) (wanted o) (λ p. p.time ≡ time o p.x) (λ x g. refl) limit b f.lo_kept f.hi_kept new w

      end_solves : (o : S) (b : Bracket) → e ≡ pass (o, b) → (n : end.Ending) → search_of (time o) (wanted o) limit b ≡ n → IfSolved (IsSolved time wanted find e) (answer_of (find o) n)
      end_solves o b h (end.solved x n) s =
          let f = fair o b h in
          let near = solved_near (time o) (wanted o) limit b s in
          found_solves (find o) (IsSolved time wanted find e) x n (find o x) (λ found g. record {
            o = o;
            start = b;
            entry = h;
            in_start = solved_in (time o) (wanted o) limit b f.starts f.lo_time f.hi_time s;
            finite = near.0;
            near = near.1;
            finding = g;
          })
      end_solves o b h (end.closed new n) s = tt
      end_solves o b h (end.spent new n) s = tt
      end_solves o b h (end.lost n) s = tt

      pub solved_means : (x : Float) (n : ℕ) (found : A) → answer ≡ solved x n found → IsSolved time wanted find e x found
      solved_means x n found s = subst (IfSolved (IsSolved time wanted find e)) s (by_origin (IfSolved (IsSolved time wanted find e)) (λ k h. tt) end_solves)

      named : (o : S) (b : Bracket) → e ≡ pass (o, b) → (new : Bracket) → Names (search_of (time o) (wanted o) limit b) new → (k n : ℕ) → (k ≡ 9) ⊎ ((k ≡ 10) × (n ≡ limit)) → IsNamed time wanted limit e k n new.lo.x new.hi.x
      named o b h new w k n number =
          let f = fair o b h in
          let i = named_kept (time o) (wanted o) limit b f.starts f.lo_time f.hi_time new w in
          let g = named_finite (time o) (wanted o) limit b (f.lo_finite, f.hi_finite) new w in
          record {
            o = o;
            start = b;
            entry = h;
            number = number;
            lo_in = i.lo_in;
            hi_in = i.hi_in;
            in_order = i.in_order;
            lo_finite = g.0;
            hi_finite = g.1;
            lo_time = i.lo_time;
            hi_time = i.hi_time;
            lo_at_most = at_most (wanted o) (time o new.lo.x) f.t_number (f.time_fits new.lo.x, passed g.0) i.lo_time;
            hi_at_least = at_most (time o new.hi.x) (wanted o) (f.time_fits new.hi.x, passed g.1) f.t_number i.hi_time;
          }

      end_names : (o : S) (b : Bracket) → e ≡ pass (o, b) → (n : end.Ending) → search_of (time o) (wanted o) limit b ≡ n → IfNamed (IsNamed time wanted limit e) (answer_of (find o) n)
      end_names o b h (end.solved x n) s = found_names (find o) (IsNamed time wanted limit e) x n (find o x)
      end_names o b h (end.closed new n) s = named o b h new (n, inl s) 9 n (inl refl)
      end_names o b h (end.spent new n) s = named o b h new (n, inr s) 10 n (inr (refl, count.spent_counts (time o) (wanted o) limit b (least o b h) s))
      end_names o b h (end.lost n) s = tt

      pub bracket_means : (k n : ℕ) (lo hi : Float) → answer ≡ refused_with_bracket k n lo hi → IsNamed time wanted limit e k n lo hi
      bracket_means k n lo hi s = subst (IfNamed (IsNamed time wanted limit e)) s (by_origin (IfNamed (IsNamed time wanted limit e)) (λ k h. tt) end_names)

      module _ (otherTime : S → Float → Float) (otherFind : S → Float → Checked A) where
        -- the same time and finding at x
        abbrev pub Same : S → Float → Type 0
        Same o x = (time o x ≡ otherTime o x) × (find o x ≡ otherFind o x)

        pub same_answer : ((o : S) (b : Bracket) → e ≡ pass (o, b) → (x : Float) → In b x → Same o x) → answer ≡ answer_from otherTime wanted otherFind limit e
        same_answer same = go e refl
          where
            ending : (o : S) (b : Bracket) → e ≡ pass (o, b) → (n : end.Ending) → search_of (time o) (wanted o) limit b ≡ n → answer_of (find o) n ≡ answer_of (otherFind o) n
            ending o b h (end.solved x n) s = let f = fair o b h in ap (with_found x n) (same o b h x (solved_in (time o) (wanted o) limit b f.starts f.lo_time f.hi_time s)).1
            ending o b h (end.closed new n) s = refl
            ending o b h (end.spent new n) s = refl
            ending o b h (end.lost n) s = refl

            go : (m : Checked (S × Bracket)) → e ≡ m → answer_from time wanted find limit m ≡ answer_from otherTime wanted otherFind limit m
            go (pass (o, b)) h =
                let f = fair o b h in
                ending o b h (search_of (time o) (wanted o) limit b) refl
                ∙ ap (answer_of (otherFind o)) (same_search (time o) (wanted o) limit b f.starts f.lo_time f.hi_time (otherTime o) (λ x i. (same o b h x i).0))
            go (refuse k) h = refl
