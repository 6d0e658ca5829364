-- The loop that answers problems, turn by turn: the kinds and the bodies of the cards of the problems so far stand in their list and on the page.
use mathlib.Core.Path.{◌≡◌, sym, ap, ◌∙◌}
use mathlib.Core.List.{List, [], ◌∷◌, ◌++◌}
use Prim.Native.Nat.{ℕ, zero, suc, ◌+◌, ◌*◌, ◌/◌, ◌≤◌, ◌<◌}
use native.Mathlib.Nat.{add_comm, mul-zero, mul-suc}
use native.Mathlib.Numerals.{add-one}
use native.Mathlib.Omega.{arith}
use lib.ListN.{length, take, drop, set, length-drop}
use lib.Seq.{drop-drop}
use Rattle.pieces.specs.Pieces.{Put}
use Rattle.pieces.specs.declared.Page.{Page}
use Rattle.pieces.specs.Page.{written}
use Rattle.pieces.proofs.Puts as pieces
use Rattle.pieces.proofs.Puts.{puts, none, renamed, at_once}
use Rattle.pieces.proofs.Pages.{two, nothing}
use Rattle.rows.specs.Rows.{pass}
use Rattle.version.specs.declared.Version.{Version}
use Rattle.card.specs.declared.Kind.{Kind}
use Rattle.card.specs.Fields.{Card, kind_number, given_size}
use Rattle.layout.specs.Layout.{bodies_of}
use Rattle.layout.specs.Packed.{kinds_of}
use Rattle.layout.proofs.Packed.{kinds_behind, bodies_behind}
use Rattle.predicted.specs.Predicted.{card_of, first_card, kind_placed, with_body}
use Rattle.predicted.proofs.First.{placed}
use Rattle.problems.specs.Problems.{cards_for}
use Rattle.problems.proofs.Widths.{one_inside}

-- the card of the problem at place i, as the last of the first i + 1
last_card : (v : Version) (i : ℕ) (problems : List ℕ) → cards_for v (suc i) problems ≡ cards_for v i problems ++ (card_of (take (given_size v) (drop (given_size v * i) problems)) ∷ [])
unfolding cards_for
last_card v zero problems = ap (λ (n : ℕ). card_of (take (given_size v) (drop n problems)) ∷ []) (sym (mul-zero (given_size v)))
last_card v (suc i) problems =
    let w : ℕ = given_size v in
    let next : w * suc i ≡ w + w * i = mul-suc w i ∙ add_comm (w * i) w in
    let there : drop (w * i) (drop w problems) ≡ drop (w * suc i) problems = drop-drop (w * i) w problems ∙ ap (λ (n : ℕ). drop n problems) (sym next) in
    ap (λ (l : List Card). card_of (take w problems) ∷ l) (last_card v i (drop w problems) ∙ ap (λ (l : List ℕ). cards_for v i (drop w problems) ++ (card_of (take w l) ∷ [])) there)

pub record Answering (v : Version) (problems kinds₀ : List ℕ) (start : Page) (kinds : List ℕ) (page : Page) (i : ℕ) : Type 0 where
  pub listed : Put kinds₀ 0 (kinds_of (cards_for v i problems)) kinds i
  pub laid : page ≡ written start (bodies_of (cards_for v i problems))

pub start : (v : Version) (problems kinds : List ℕ) (page : Page) → page.at ≤ length page.bytes.now → Answering v problems kinds page kinds page 0
unfolding cards_for bodies_of
start v problems kinds page h = record { listed = none (omega arith); laid = sym (nothing page h) }

-- a problem has bytes
pub some : (v : Version) → 0 < given_size v
some v = omega arith

module _ (v : Version) (problems : List ℕ) (i : ℕ) (left : i < length problems / given_size v) where
  -- while a problem is left, there is a place for its kind
  pub room : {kinds₀ : List ℕ} {first : Page} {kinds : List ℕ} {page : Page} → Answering v problems kinds₀ first kinds page i → length problems / given_size v ≤ length kinds₀ → i + 1 ≤ length kinds
  room s most = omega (arith, left, most, pieces.as_long s.listed)

  -- and its bytes are there
  pub whole : given_size v ≤ length (drop (given_size v * i) problems)
  whole = omega (arith, length-drop (given_size v * i) problems, one_inside (given_size v) (some v) i (length problems) left)

  -- its card
  next_card : cards_for v i problems ++ (card_of (take (given_size v) (drop (given_size v * i) problems)) ∷ []) ≡ cards_for v (i + 1) problems
  next_card = sym (last_card v i problems) ∙ ap (λ (n : ℕ). cards_for v n problems) (sym (add-one i))

  -- a problem is answered
  pub turn : {kinds₀ : List ℕ} {first : Page} {kinds : List ℕ} {page : Page} → Answering v problems kinds₀ first kinds page i
      → (n : ℕ) {kind : Kind} {after : Page} → length problems / given_size v ≤ length kinds₀
      → n ≡ kind_number kind → pass kind ≡ kind_placed (first_card v (drop (given_size v * i) problems)) → after ≡ with_body page (first_card v (drop (given_size v * i) problems))
      → Answering v problems kinds₀ first (set kinds i n) after (i + 1)
  turn {first = first} {kinds = kinds} {page = page} s n most k e w =
      let cards = cards_for v i problems in
      let card = card_of (take (given_size v) (drop (given_size v * i) problems)) in
      let p = placed v (drop (given_size v * i) problems) whole page e w in
      let number = ap (λ (m : ℕ). kinds_of cards ++ (m ∷ [])) (k ∙ ap kind_number p.0) in
      record {
        listed = renamed (number ∙ sym (kinds_behind cards card) ∙ ap kinds_of next_card) (puts s.listed (at_once kinds i (n ∷ []) (room s most)));
        laid = rw (p.1, s.laid, two) (ap (written first) (sym (bodies_behind cards card) ∙ ap bodies_of next_card));
      }
