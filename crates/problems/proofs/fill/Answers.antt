-- `problems::fill` meets its contract: the bodies are written behind the place of the contents, then the contents, so that the deck stands whole.
use mathlib.Core.Path.{◌≡◌, sym, ap, ◌∙◌}
use mathlib.Core.List.{List}
use Prim.Native.Nat.{ℕ, ◌/◌, ◌≤◌}
use native.Mathlib.Omega.{arith}
use lib.ListN.{length, take, replicate, length-replicate}
use lib.Seq.{length-take-le}
use Rattle.pieces.specs.Pieces.{Put}
use Rattle.pieces.specs.declared.Page.{Page}
use Rattle.pieces.specs.Page.{written}
use Rattle.pieces.proofs.Puts.{inside, front}
use Rattle.pieces.proofs.Pages.{under}
use Rattle.version.specs.declared.Version.{Version}
use Rattle.card.specs.Fields.{given_size}
use Rattle.contents.specs.Contents.{entry_at, most_cards}
use Rattle.layout.specs.Layout.{bodies_of, deck_of, contents_for}
use Rattle.layout.specs.Packed.{kinds_of}
use Rattle.layout.proofs.Packed.{length_kinds}
use Rattle.layout.proofs.Contents.{contents_length, contents_first}
use Rattle.problems.specs.Problems.{deck_from}
use Rattle.problems.proofs.Made.{as_many}
use Rattle.problems.proofs.fill.Goals as goal
use Rattle.problems.proofs.fill.Goals.{After-given_size}

-- kinds at the front of a list of 256, bodies behind the place of the contents, then the contents of these kinds
filled : (v : Version) (problems : List ℕ) (p : Page) {kinds : List ℕ} {n : ℕ} {q r : Page} → n ≡ length problems / given_size v → n ≤ most_cards → p.at ≡ 0
    → Put (replicate most_cards 0) 0 (kinds_of (deck_from v problems).cards) kinds (length problems / given_size v)
    → q ≡ written (record p { at = entry_at n }) (bodies_of (deck_from v problems).cards)
    → r ≡ written (record q { at = 0 }) (contents_for v (take n kinds)) → record r { at = q.at } ≡ written p (deck_of (deck_from v problems))
filled v problems p {kinds} {n} {q} is h first listed laid contents =
    let d = deck_from v problems in
    let cards = d.cards in
    let many : length cards ≡ n = as_many v (length problems / given_size v) problems ∙ sym is in
    let few : length cards ≤ most_cards = omega (arith, many) in
    let kinds_are : take n kinds ≡ kinds_of cards = ap (λ (k : ℕ). take k kinds) is ∙ (front listed (omega (arith, length_kinds cards, few, length-replicate {A = ℕ} most_cards 0))).1 in
    let place : entry_at n ≡ length (contents_for v (kinds_of cards)) = ap entry_at (sym many) ∙ sym (contents_length d few) in
    let behind = laid ∙ ap (λ (at : ℕ). written (record p { at = at }) (bodies_of cards)) place in
    let before = contents ∙ ap (λ (l : List ℕ). written (record q { at = 0 }) (contents_for v l)) kinds_are in
    under p (contents_for v (kinds_of cards)) (bodies_of cards) first behind before ∙ ap (written p) (contents_first d few)

-- how many problems there are
count_is : (c : After-given_size) → length c.args.problems.now / c.given_size.result ≡ length c.args.problems.now / given_size c.args.version
count_is c = ap (λ (w : ℕ). length c.args.problems.now / w) c.given_size.ensures

few : (c : After-given_size) → length c.args.problems.now / c.given_size.result ≤ most_cards
few c = rw (count_is c) c.requires.0

pub answer-requires : goal.answer-requires
answer-requires c = (c.requires.0, rw (count_is (goal.at.answer-requires c).After-given_size) c.requires.1.1)

pub slice_bounds-put_contents-end : goal.slice_bounds-put_contents-end
slice_bounds-put_contents-end c = sym (length-take-le _ _ (rw (count_is (goal.at.slice_bounds-put_contents-end c).After-given_size) (inside c.answer.ensures.kinds_after)))

pub returns : goal.returns
returns c = filled c.args.version c.args.problems.now c.args.page.now (count_is (goal.at.returns c).After-given_size) (few (goal.at.returns c).After-given_size) c.requires.1.0 c.answer.ensures.kinds_after c.answer.ensures.page_after c.put_contents.ensures

pub nonzero_div-count : goal.nonzero_div-count
nonzero_div-count c = omega (arith, c.given_size.ensures)

pub overflow_mul-page : goal.overflow_mul-page
overflow_mul-page c = omega (arith, few (goal.at.overflow_mul-page c).After-given_size)

pub overflow_add-page : goal.overflow_add-page
overflow_add-page c = omega (arith, few (goal.at.overflow_add-page c).After-given_size)

pub slice_bounds-kinds-end : goal.slice_bounds-kinds-end
slice_bounds-kinds-end c = rw (count_is (goal.at.slice_bounds-kinds-end c).After-given_size) (inside c.answer.ensures.kinds_after)
