-- The card of the first problem: where the bytes have one, its kind is answered and its body is put; else nothing is.
use mathlib.Core.Path.{◌≡◌, refl, sym, ap, ◌∙◌}
use mathlib.Core.Bool.{true≢false}
use mathlib.Core.List.{List}
use Prim.Native.Nat.{ℕ, ◌≤◌, ◌<◌}
use borrow.Author.Tests.{le-leb, lt-leb}
use native.Mathlib.Omega.{arith}
use lib.ListN.{length, take, drop}
use lib.Seq.{length-take-le, take-add, take_at, drop_at}
use Rattle.pieces.specs.declared.Page.{Page}
use Rattle.pieces.specs.Page.{written}
use Rattle.rows.specs.Rows.{Checked, pass, refuse, must, onward}
use Rattle.rows.proofs.Laws.{pass_once}
use Rattle.version.specs.declared.Version.{Version}
use Rattle.card.specs.declared.Kind.{Kind}
use Rattle.version.specs.Version.{tag_size}
use Rattle.kepler.specs.Kepler.{kepler_of}
use Rattle.card.specs.Fields.{problem_size, given_size, problem_of}
use Rattle.card.specs.Made.{card_for}
use Rattle.card.proofs.Given.{given_problem}
use Rattle.predicted.specs.Predicted.{card_of, first_card, kind_placed, with_body}

first_short : (v : Version) (problems : List ℕ) → length problems < given_size v → first_card v problems ≡ refuse 46
unfolding first_card must
first_short v problems h = rw (lt-leb (given_size v) (length problems) h) refl

first_is : (v : Version) (problems : List ℕ) → given_size v ≤ length problems → first_card v problems ≡ pass (card_of (take (given_size v) problems))
unfolding first_card must
first_is v problems h = rw (le-leb (given_size v) (length problems) h) refl

-- what is given is the problem, then object and epoch where the version has them
pub first_made : (v : Version) (problems : List ℕ) → given_size v ≤ length problems → card_of (take (given_size v) problems) ≡ card_for (take problem_size problems) (take (tag_size v) (drop problem_size problems)) (kepler_of (problem_of (take problem_size problems)))
first_made v problems h =
    let given = take problem_size problems in
    let tag = take (tag_size v) (drop problem_size problems) in
    let sized : length given ≡ problem_size = length-take-le problem_size problems (omega arith) in
    ap card_of (take-add problem_size (tag_size v) problems)
    ∙ rw (take_at given tag problem_size sized, drop_at given tag problem_size sized, given_problem given sized tag) refl

module _ (v : Version) (problems : List ℕ) where
  pub not_placed : (page : Page) → length problems < given_size v → (refuse 46 ≡ kind_placed (first_card v problems)) × (page ≡ with_body page (first_card v problems))
  unfolding kind_placed onward
  not_placed page h = rw (first_short v problems h) (refl, refl)

  module _ (h : given_size v ≤ length problems) where
    placed_is : kind_placed (first_card v problems) ≡ pass (card_of (take (given_size v) problems)).kind
    unfolding kind_placed onward
    placed_is = rw (first_is v problems h) refl

    -- the page has the card's body
    body_is : (page : Page) → written page (card_of (take (given_size v) problems)).body ≡ with_body page (first_card v problems)
    body_is page = rw (first_is v problems h) refl

    -- what is put is what is answered
    pub one_placed : (page : Page) {after : Page} {kind : Kind} → kind ≡ (card_of (take (given_size v) problems)).kind → after ≡ written page (card_of (take (given_size v) problems)).body
        → (pass kind ≡ kind_placed (first_card v problems)) × (after ≡ with_body page (first_card v problems))
    one_placed page k p = (ap pass k ∙ sym placed_is, p ∙ body_is page)

    -- and what is answered is what was put
    pub placed : (page : Page) {after : Page} {kind : Kind} → pass kind ≡ kind_placed (first_card v problems) → after ≡ with_body page (first_card v problems)
        → (kind ≡ (card_of (take (given_size v) problems)).kind) × (after ≡ written page (card_of (take (given_size v) problems)).body)
    placed page e w = (pass_once (e ∙ placed_is), w ∙ sym (body_is page))

    pub never_refused : {k : ℕ} → refuse k ≡ kind_placed (first_card v problems) → ⊥
    never_refused {k} e =
        let told : ◌≡◌ {A = Checked Kind} (refuse k) (pass (card_of (take (given_size v) problems)).kind) = e ∙ placed_is in
        true≢false cc
