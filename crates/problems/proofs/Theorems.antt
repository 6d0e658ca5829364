-- What is written from problems, in either version: the reader accepts it, every verdict is 0, and its problems, objects and epochs are the ones
-- given, in order, as bytes. And it is written wherever there is room for the largest deck, unless there are too many problems or one is cut off.
use mathlib.Core.Path.{◌≡◌, refl, sym, ap, ap₂, ◌∙◌}
use mathlib.Core.List.{List, [], ◌∷◌, ◌++◌}
use Prim.Native.Nat.{ℕ, zero, suc, ◌+◌, ◌*◌, ◌/◌, ◌%◌, ◌≤◌, ◌<◌}
use native.Mathlib.Nat.{mul-zero, mul-suc, le_trans, mul-le-mul_left, le-div_iff_mul-le}
use native.Mathlib.Omega.{arith}
use borrow.Author.Tests.{leb-true, eqb-true, le-leb}
use lib.Dec.{leb, eqb}
use lib.ListN.{length, take, drop, replicate, length-append, length-drop, take-append-drop, drop_of_length-le}
use Rattle.rows.specs.Rows.{pass, refuse, must, onward}
use Rattle.rows.proofs.Laws.{pass_once, test_passed, rows_passed, onward_same}
use Rattle.version.specs.declared.Version.{Version}
use Rattle.version.specs.Version.{version_number, form_number, tag_size, version_given}
use Rattle.version.proofs.Sizes.{tag_most}
use Rattle.kepler.specs.Kepler.{kepler_of}
use Rattle.card.specs.Fields.{Card, problem_size, question_size, given_size, largest_given, problem_of}
use Rattle.card.specs.Made.{card_for}
use Rattle.card.proofs.Given.{given_problem}
use Rattle.card.proofs.Packed.{made_begins, made_tag}
use Rattle.contents.specs.Contents.{Deck, most_cards, largest_deck, deck_in}
use Rattle.ruling.specs.Said.{number_in}
use Rattle.verdict.specs.Verdict.{verdict_of}
use Rattle.verdict.proofs.Made.{made_passes}
use Rattle.deck.specs.Check.{numbers_of}
use Rattle.layout.specs.Layout.{deck_of}
use Rattle.layout.specs.Written.{deck_for}
use Rattle.layout.proofs.Sizes.{deck_most}
use Rattle.layout.proofs.ReadBack.{read_back}
use Rattle.layout.proofs.Writing.{given_in_lem}
use Rattle.predicted.specs.Predicted.{card_of}
use Rattle.problems.specs.Problems.{cards_for, deck_from, predicted_deck, problem_deck}
use Rattle.problems.proofs.Widths.{inside, none_cut, counted}
use Rattle.problems.proofs.Answering.{some}
use Rattle.problems.proofs.Made.{parted, first_size, others, as_many, all_sized, too_many, all_whole, sized}

-- what a card was written from: the problem, then object and epoch where the version has them, which stand behind the spare
abbrev pub given_of : Version → (body : List ℕ) → List ℕ
given_of v body = take problem_size body ++ take (tag_size v) (drop question_size body)

-- the bytes of what cards were written from, one behind the other
unfoldable pub problems_of : Version → List Card → List ℕ
problems_of v [] = []
problems_of v (c ∷ cards) = given_of v c.body ++ problems_of v cards

-- ---- one problem

module _ (v : Version) (given : List ℕ) (sized : length given ≡ given_size v) where
  -- its card has the verdict 0
  one_passes : number_in (verdict_of v (card_of given)) ≡ 0
  one_passes =
      let p = parted v given sized in
      let same : problem_of (take problem_size given) ≡ problem_of given = sym (given_problem (take problem_size given) p.problem (drop problem_size given)) ∙ ap problem_of (take-append-drop problem_size given) in
      ap (λ q. number_in (verdict_of v (card_for (take problem_size given) (drop problem_size given) (kepler_of q)))) (sym same)
      ∙ made_passes v (take problem_size given) (drop problem_size given) p.problem p.tag

  -- and is written from what was given
  one_given : given_of v (card_of given).body ≡ given
  one_given =
      let p = parted v given sized in
      ap₂ ◌++◌ (made_begins v (take problem_size given) (drop problem_size given) p.problem p.tag (kepler_of (problem_of given))) (made_tag v (take problem_size given) (drop problem_size given) p.problem p.tag (kepler_of (problem_of given)))
      ∙ take-append-drop problem_size given

-- ---- the first n problems

-- each verdict is 0
verdicts_from : (v : Version) (n : ℕ) (problems : List ℕ) → given_size v * n ≤ length problems → numbers_of v (cards_for v n problems) ≡ replicate n 0
unfolding cards_for
verdicts_from v zero problems h = refl
verdicts_from v (suc n) problems h = ap₂ ◌∷◌ (one_passes v (take (given_size v) problems) (first_size v n problems h)) (verdicts_from v n (drop (given_size v) problems) (others v n problems h))

-- and they are the ones given
given_from : (v : Version) (n : ℕ) (problems : List ℕ) → length problems ≡ given_size v * n → problems_of v (cards_for v n problems) ≡ problems
unfolding cards_for problems_of
given_from v zero problems h = sym (drop_of_length-le problems {i = 0} (omega (arith, h, mul-zero (given_size v))))
given_from v (suc n) problems h =
    let w : ℕ = given_size v in
    let rest : length (drop w problems) ≡ w * n = omega (arith, h, length-drop w problems, mul-suc w n) in
    ap₂ ◌++◌ (one_given v (take w problems) (first_size v n problems (omega (arith, h)))) (given_from v n (drop w problems) rest) ∙ take-append-drop w problems

-- ---- all of them

-- problems that come to a deck are whole, and at most 256
record Whole (v : Version) (problems : List ℕ) (d : Deck) : Type 0 where
  few : length problems / given_size v ≤ most_cards
  none_over : length problems % given_size v ≡ 0
  is : d ≡ deck_from v problems

whole : (v : Version) (problems : List ℕ) (d : Deck) → predicted_deck v problems ≡ pass d → Whole v problems d
unfolding predicted_deck
whole v problems d h =
    let n : ℕ = length problems / given_size v in
    let first = test_passed (leb n most_cards) 40 (must (eqb (length problems % given_size v) 0) 46 (pass (deck_from v problems))) h in
    let second = test_passed (eqb (length problems % given_size v) 0) 46 (pass (deck_from v problems)) first.1 in
    record { few = leb-true n most_cards first.0; none_over = eqb-true (length problems % given_size v) 0 second.0; is = sym (pass_once second.1) }

-- 42 comes first: where no version is given, the problems may be any
pub none_written : (number form : ℕ) (problems : List ℕ) → version_given number form ≡ refuse 42 → problem_deck number form problems ≡ refuse 42
unfolding problem_deck onward
none_written number form problems e = rw e refl

-- what is said of a deck that was written from problems: the version is the one that was asked for, and object and epoch are those given
pub record WrittenFrom (number form : ℕ) (problems deck : List ℕ) : Type 0 where
  pub is : Deck
  pub accepted : deck_in deck ≡ pass is
  pub in_version : version_given number form ≡ pass is.version
  pub verdicts : numbers_of is.version is.cards ≡ replicate (length is.cards) 0
  pub problems_are : problems_of is.version is.cards ≡ problems

pub written_from : (number form : ℕ) (problems : List ℕ) (room : ℕ) (deck : List ℕ) → deck_for (problem_deck number form problems) room ≡ pass deck → WrittenFrom number form problems deck
unfolding deck_for problem_deck
written_from number form problems room deck h =
    let P = rows_passed (problem_deck number form problems) (λ d. must (leb (length (deck_of d)) room) 41 (pass (deck_of d))) h in
    let R = rows_passed (version_given number form) (λ v. predicted_deck v problems) P.1 in
    let v = R.0 in
    let w = whole v problems P.0 R.2 in
    let n : ℕ = length problems / given_size v in
    let made = deck_from v problems in
    let deck_is : deck_of P.0 ≡ deck = pass_once (test_passed (leb (length (deck_of P.0)) room) 41 (pass (deck_of P.0)) P.2).1 in
    let all : length problems ≡ given_size v * n = none_cut (given_size v) (some v) (length problems) w.none_over in
    let many = as_many v n problems in
    record {
      is = made;
      accepted = ap deck_in (sym deck_is ∙ ap deck_of w.is) ∙ read_back made (omega (arith, many, w.few)) (sized v problems);
      in_version = R.1;
      verdicts = verdicts_from v n problems (inside (given_size v) (some v) (length problems)) ∙ ap (λ (k : ℕ). replicate k 0) (sym many);
      problems_are = given_from v n problems all;
    }

-- a writer may not refuse: n whole problems, at most 256, are written in their version wherever the largest deck fits
pub always_written : (v : Version) (n : ℕ) (problems : List ℕ) (room : ℕ) → length problems ≡ given_size v * n → n ≤ most_cards → largest_deck ≤ room
    → deck_for (problem_deck (version_number v) (form_number v) problems) room ≡ pass (deck_of (record { version = v; cards = cards_for v n problems }))
unfolding deck_for problem_deck onward must
always_written v n problems room h few roomy =
    let made : Deck = record { version = v; cards = cards_for v n problems } in
    let c = counted (given_size v) (some v) n (length problems) h in
    let is : predicted_deck v problems ≡ pass made = all_whole v problems (omega (arith, c.0, few)) c.1 ∙ ap (λ (k : ℕ). pass (record { version = v; cards = cards_for v k problems })) c.0 in
    let fits : length (deck_of made) ≤ room = omega (arith, deck_most made (omega (arith, as_many v n problems, few)) (all_sized v n problems (omega (arith, h))), roomy) in
    rw (given_in_lem v, is, le-leb (length (deck_of made)) room fits) refl

-- 257 problems of the largest form, and any bytes behind them, are refused whatever they are
pub too_many_read : (number form : ℕ) (read behind : List ℕ) → largest_given * (most_cards + 1) ≤ length read → problem_deck number form (read ++ behind) ≡ problem_deck number form read
unfolding problem_deck
too_many_read number form read behind h = onward_same (version_given number form) (λ v. predicted_deck v (read ++ behind)) (λ v. predicted_deck v read) (λ v e. too_many v (read ++ behind) (over v (read ++ behind) (omega (arith, h, length-append read behind))) ∙ sym (too_many v read (over v read h)))
  where
    wide : (v : Version) → given_size v ≤ largest_given
    wide v = omega (arith, tag_most v)

    over : (v : Version) (problems : List ℕ) → largest_given * (most_cards + 1) ≤ length problems → most_cards < length problems / given_size v
    over v problems h = (le-div_iff_mul-le (some v)).1 (le_trans (mul-le-mul_left (most_cards + 1) (wide v)) (omega (arith, h)))
