-- `problems::answer` meets its contract: after each turn, the kinds and the bodies of the cards of the problems so far stand where they belong.
use mathlib.Core.Path.{◌≡◌, ap, ◌∙◌}
use mathlib.Core.List.{List}
use Prim.Native.Nat.{ℕ, ◌-◌, ◌*◌, ◌/◌, ◌<◌}
use native.Mathlib.Omega.{arith}
use lib.ListN.{length, take, drop, length-drop}
use lib.Seq.{take_all}
use Rattle.card.specs.Fields.{given_size}
use Rattle.predicted.specs.Predicted.{first_card, kind_placed, with_body}
use Rattle.predicted.proofs.First.{never_refused}
use Rattle.problems.proofs.Answering.{start, whole, turn}
use Rattle.problems.proofs.answer.Goals as goal
use Rattle.problems.proofs.answer.Goals.{After-put}

pub loop-i-init : goal.loop-i-init
loop-i-init c = start c.args.version c.args.problems.now c.args.kinds.now c.args.page.now c.requires.1

-- a problem is left, and those from it on are lent
left : (c : After-put) → c.loop-i.i < length c.args.problems.now / given_size c.args.version
left c = rw c.given_size-size.ensures at c.loop-i-test.true

lent : (c : After-put) → take (length c.args.problems.now - c.given_size-size.result * c.loop-i.i) (drop (c.given_size-size.result * c.loop-i.i) c.args.problems.now) ≡ drop (given_size c.args.version * c.loop-i.i) c.args.problems.now
lent c =
    let problems = c.args.problems.now in
    let at : ℕ = c.given_size-size.result * c.loop-i.i in
    take_all (length problems - at) (drop at problems) (omega (arith, length-drop at problems)) ∙ ap (λ (w : ℕ). drop (w * c.loop-i.i) problems) c.given_size-size.ensures

pub returns-in_default : goal.returns-in_default
returns-in_default c =
    let v = c.args.version in
    let problems = c.args.problems.now in
    let there = (goal.at.returns-in_default c).After-put in
    absurd (never_refused v (drop (given_size v * c.loop-i.i) problems) (whole v problems c.loop-i.i (left there)) (c.in_default.ensures.result_value ∙ ap (λ (l : List ℕ). kind_placed (first_card v l)) (lent there)))

pub loop-i-preserved : goal.loop-i-preserved
loop-i-preserved c =
    let v = c.args.version in
    let there = (goal.at.loop-i-preserved c).After-put in
    let told = c.in-Ok.ensures.result_value ∙ ap (λ (l : List ℕ). kind_placed (first_card v l)) (lent there) in
    let written = c.in-Ok.ensures.page_after ∙ ap (λ (l : List ℕ). with_body c.loop-i.page (first_card v l)) (lent there) in
    turn v c.args.problems.now c.loop-i.i (left there) c.loop-i.invariant c.number.result c.requires.0 c.number.ensures told written
