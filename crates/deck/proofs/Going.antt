-- The loop that judges a deck's cards, turn by turn: the cards that are left are those of the contents from entry i on; tallied and written
-- from there on, they give the tally and the list of the whole deck.
use mathlib.Core.Path.{◌≡◌, refl, sym, ap, ◌∙◌, subst}
use mathlib.Core.Bool.{true≢false}
use mathlib.Core.List.{List, [], ◌∷◌, ◌++◌}
use Prim.Native.Nat.{ℕ, suc, ◌+◌, ◌-◌, ◌≤◌, ◌<◌}
use native.Mathlib.Nat.{zero-add, add-zero, le_of_eq}
use native.Mathlib.Numerals.{add-one}
use native.Mathlib.Omega.{arith}
use borrow.Rule.Slice.PartMut.{put_mid, set_mid_at}
use lib.ListN.{length, take, drop, set, length-drop, length-set, length-map}
use lib.Seq.{length-take-le, sets, sets-eq}
use Rattle.rows.specs.Rows.{pass, refuse, onward}
use Rattle.rows.proofs.Laws.{pass_once}
use Rattle.version.specs.declared.Version.{Version}
use Rattle.card.specs.declared.Kind.{Kind}
use Rattle.card.specs.Fields.{Card, size_of, parts_of}
use Rattle.contents.specs.Contents.{entry_at, entry_in, cards_from, Passes}
use Rattle.contents.proofs.Cards.{card_at, one_more, come_to_cards, no_more, as_many}
use Rattle.ruling.specs.Said.{Said, number_in}
use Rattle.verdict.specs.Verdict.{verdict_on, verdict_of}
use Rattle.deck.specs.declared.tally.Running.{Running}
use Rattle.deck.specs.Tally.{nothing, counted, counted_all, residuals_of, totals_of}
use Rattle.deck.specs.Check.{verdicts_of, numbers_of, judged_from, tallied, written}
use Rattle.deck.proofs.Tallied.{total_of, one_counted}

-- while an entry is left, the part of the list that is lent on has a place
pub some_left : (i : ℕ) (list : List ℕ) → i < length list → 0 < length (take (length list - i) (drop i list))
some_left i list h = rw (length-take-le (length list - i) (drop i list) (le_of_eq (sym (length-drop i list)))) (omega arith)

pub record Going (version : Version) (deck : List ℕ) (count : ℕ) (before list : List ℕ) (i at : ℕ) (n : Running) : Type 0 where
  pub all : List Card
  pub whole : cards_from version deck count 0 (entry_at count) ≡ pass all
  pub rest : List Card
  pub left : cards_from version deck (count - i) i at ≡ pass rest
  pub tally : counted_all n (verdicts_of version rest) ≡ counted_all nothing (verdicts_of version all)
  pub written_on : sets list i (numbers_of version rest) ≡ sets before 0 (numbers_of version all)
  pub as_long : length list ≡ length before
  pub total : total_of n ≡ i

pub start : (version : Version) (deck : List ℕ) (count : ℕ) (before : List ℕ) → Passes (cards_from version deck count 0 (entry_at count)) → Going version deck count before before 0 (entry_at count) nothing
start version deck count before p =
    let w = come_to_cards (cards_from version deck count 0 (entry_at count)) p in
    let none_yet : count - 0 ≡ count = omega arith in
    record { all = w.0; whole = w.1; rest = w.0; left = rw none_yet w.1; tally = refl; written_on = refl; as_long = refl; total = refl }

module _ {version : Version} {deck : List ℕ} {count : ℕ} {before list : List ℕ} {i at : ℕ} {n : Running} (g : Going version deck count before list i at n) where
  -- while an entry is left, it passes, and its card is the next one
  next : i < count → cards_from version deck (suc (count - (i + 1))) i at ≡ pass g.rest
  next h = let one_less : count - i ≡ suc (count - (i + 1)) = omega arith in rw one_less at g.left

  pub never_refused : (k : ℕ) → i < count → entry_in version deck i at ≡ refuse k → ⊥
  never_refused k h e =
      let m = one_more version deck (count - (i + 1)) i at g.rest (next h) in
      let passed : pass m.kind ≡ refuse k = sym m.entry ∙ e in
      true≢false cc

  go_on : (kind : Kind) → i < count → entry_in version deck i at ≡ pass kind → let v = verdict_of version (card_at version deck kind at) in Going version deck count before (set list i (number_in v)) (i + 1) (at + size_of version kind) (counted n v)
  unfolding counted_all
  go_on kind h e =
      let v = verdict_of version (card_at version deck kind at) in
      let m = one_more version deck (count - (i + 1)) i at g.rest (next h) in
      let same : m.kind ≡ kind = pass_once (sym m.entry ∙ e) in
      let rest-is : g.rest ≡ card_at version deck kind at ∷ m.rest = subst (λ (k : Kind). g.rest ≡ card_at version deck k at ∷ m.rest) same m.cards_is in
      record {
        all = g.all;
        whole = g.whole;
        rest = m.rest;
        left = subst (λ (k : Kind). cards_from version deck (count - (i + 1)) (i + 1) (at + size_of version k) ≡ pass m.rest) same m.others;
        tally = sym (ap (λ (r : List Card). counted_all n (verdicts_of version r)) rest-is) ∙ g.tally;
        written_on = ap (λ (k : ℕ). sets (set list i (number_in v)) k (numbers_of version m.rest)) (add-one i) ∙ sym (ap (λ (r : List Card). sets list i (numbers_of version r)) rest-is) ∙ g.written_on;
        as_long = length-set list i (number_in v) ∙ g.as_long;
        total = one_counted n v ∙ ap (λ (k : ℕ). k + 1) g.total;
      }

  -- the same as the code has it: the verdict v on the bytes from `at` to the body's end, written into the lent part of the list
  pub turn : (kind : Kind) (size : ℕ) (v : Said) (lent : List ℕ) (m : Running) → i < count → i < length list → entry_in version deck i at ≡ pass kind → size ≡ size_of version kind
      → v ≡ verdict_on kind (parts_of version kind (take (at + size - at) (drop at deck))) → lent ≡ set (take (length list - i) (drop i list)) 0 (number_in v) → m ≡ counted n v
      → Going version deck count before (put_mid i (length list - i) list lent) (i + 1) (at + size) m
  turn kind size v lent m h room e size_is v-is Lent-is m-is =
      let taken : at + size - at ≡ size_of version kind = omega arith in
      let verdict-is : v ≡ verdict_of version (card_at version deck kind at) = v-is ∙ ap (λ (k : ℕ). verdict_on kind (parts_of version kind (take k (drop at deck)))) taken in
      let put : put_mid i (length list - i) list lent ≡ set list i (number_in v) =
      ap (put_mid i (length list - i) list) Lent-is ∙ set_mid_at i (length list - i) 0 list (number_in v) (some_left i list room) ∙ ap (λ (k : ℕ). set list k (number_in v)) (add-zero i) in
      rw (put, size_is, m-is, verdict-is) (go_on kind h e)

  -- after the last entry
  finished : count ≤ i → g.rest ≡ []
  finished h = let none_left : count - i ≡ 0 = omega arith in no_more version deck i at g.rest (rw none_left at g.left)

  all_tallied : count ≤ i → n ≡ counted_all nothing (verdicts_of version g.all)
  unfolding counted_all
  all_tallied h = sym (ap (λ (r : List Card). counted_all n (verdicts_of version r)) (finished h)) ∙ g.tally

  all_written : count ≤ i → count ≤ length before → list ≡ numbers_of version g.all ++ drop (length (verdicts_of version g.all)) before
  all_written h room =
      let many : 0 + length (numbers_of version g.all) ≡ length (verdicts_of version g.all) = zero-add (length (numbers_of version g.all)) ∙ length-map (verdicts_of version g.all) number_in in
      let verdicts-many : length (verdicts_of version g.all) ≡ count = length-map g.all (verdict_of version) ∙ as_many version deck count 0 (entry_at count) g.all g.whole in
      let fits : 0 + length (numbers_of version g.all) ≤ length before = omega (arith, many, verdicts-many) in
      sym (ap (λ (r : List Card). sets list i (numbers_of version r)) (finished h)) ∙ g.written_on ∙ sets-eq (numbers_of version g.all) before 0 fits ∙ ap (λ (k : ℕ). numbers_of version g.all ++ drop k before) many

  pub answer_is : count ≤ i → pass (totals_of n, residuals_of n) ≡ tallied (judged_from version deck count)
  unfolding onward
  answer_is h = rw g.whole (ap (λ (m : Running). pass (totals_of m, residuals_of m)) (all_tallied h))

  pub list_is : count ≤ i → count ≤ length before → list ≡ written (judged_from version deck count) before
  unfolding onward
  list_is h room = rw g.whole (all_written h room)
