-- `predicted::put` meets its contract: too few bytes are refused, and else the card that was made is the definition's.
use mathlib.Core.Path.{◌≡◌, sym, ap, ap₂, ◌∙◌}
use mathlib.Core.List.{List, ◌++◌}
use Prim.Native.Nat.{ℕ, ◌-◌, ◌≤◌}
use native.Mathlib.Omega.{arith}
use lib.ListN.{length, take, drop, length-drop}
use lib.Seq.{length-take-le}
use Rattle.pieces.specs.Page.{written}
use Rattle.conic.specs.Said as conic
use Rattle.version.specs.Version.{tag_size, largest_tag}
use Rattle.version.proofs.Sizes.{tag_most}
use Rattle.card.specs.declared.Kind.{Kind}
use Rattle.card.specs.Fields.{Card, problem_size, given_size}
use Rattle.card.specs.Made.{body_of, kind_for, answer_for, card_for}
use Rattle.predicted.proofs.First.{first_made, not_placed, one_placed}
use Rattle.predicted.proofs.put.Goals as goal
use Rattle.predicted.proofs.put.Goals.{Else-problems-size}

pub returns-then-problems-size : goal.returns-then-problems-size
returns-then-problems-size c = let from = c.args in
    let both = not_placed from.version from.problems.now from.page.now (omega (arith, c.given_size-size.ensures)) in record { result_value = both.0; page_after = both.1 }

-- what is given has the problem's bytes
sized : (c : Else-problems-size) → length (take problem_size c.args.problems.now) ≡ problem_size
sized c = length-take-le problem_size c.args.problems.now (omega (arith, c.given_size-size.ensures))

-- and behind these object and epoch, where the version has them
enough : (c : Else-problems-size) → given_size c.args.version ≤ length c.args.problems.now
enough c = omega (arith, c.given_size-size.ensures)

tag_is : (c : Else-problems-size) → c.given_size-size.result - problem_size ≡ tag_size c.args.version
tag_is c = omega (arith, c.given_size-size.ensures)

tag_short : (c : Else-problems-size) → length (take (c.given_size-size.result - problem_size) (drop problem_size c.args.problems.now)) ≤ largest_tag
tag_short c = let v = c.args.version in
    let rest = drop problem_size c.args.problems.now in
    rw (tag_is c) (omega (arith, length-take-le (tag_size v) rest (rw (length-drop problem_size c.args.problems.now) (omega (arith, enough c))), tag_most v))

pub slice_bounds-answered-end : goal.slice_bounds-answered-end
slice_bounds-answered-end c = sym (sized (goal.at.slice_bounds-answered-end c).Else-problems-size)

pub answered-made-requires : goal.answered-made-requires
answered-made-requires c = sized (goal.at.answered-made-requires c).Else-problems-size

pub put_body-requires : goal.put_body-requires
put_body-requires c = (ap length c.answered-made.ensures.result_value ∙ sized (goal.at.put_body-requires c).Else-problems-size, tag_short (goal.at.put_body-requires c).Else-problems-size)

pub returns : goal.returns
returns c = let from = c.args in
    let problems = from.problems.now in
    let said = conic.said c.answered-made.result.outcome in
    let kind_is = c.kind_of-kind.ensures in
    let kepler-said = c.answered-made.ensures.outcome_value in
    let body_is =
    ap₂ (λ (k : Kind) (given : List ℕ). body_of k given (take (c.given_size-size.result - problem_size) (drop problem_size problems) ++ answer_for said)) kind_is c.answered-made.ensures.result_value
    ∙ ap₂ (λ (n : ℕ) (s : conic.Said). (card_for (take problem_size problems) (take n (drop problem_size problems)) s).body) (tag_is (goal.at.returns c).Else-problems-size) kepler-said in
    let card-is = first_made from.version problems (enough (goal.at.returns c).Else-problems-size) in
    let both = one_placed from.version problems (enough (goal.at.returns c).Else-problems-size) from.page.now (kind_is ∙ ap kind_for kepler-said ∙ ap (λ (card : Card). card.kind) (sym card-is)) (c.put_body.ensures ∙ ap (written from.page.now) (body_is ∙ ap (λ (card : Card). card.body) (sym card-is))) in record { result_value = both.0; page_after = both.1 }

pub slice_bounds-put_body-count : goal.slice_bounds-put_body-count
slice_bounds-put_body-count c = omega (arith, c.given_size-size.ensures)

pub slice_bounds-put_body-start : goal.slice_bounds-put_body-start
slice_bounds-put_body-start c = omega (arith, c.given_size-size.ensures)
