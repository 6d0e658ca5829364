-- `deck::judge_into` meets its contract: the verdict, as `judge` ensures it, on the two parts of the body, and its number in the first place.
use mathlib.Core.Path.{◌≡◌, sym, ap, ap₂, ◌∙◌}
use Prim.Native.Nat.{ℕ, ◌+◌, ◌-◌, ◌≤◌}
use native.Mathlib.Omega.{arith}
use lib.ListN.{length, take, drop, set}
use lib.Seq.{length-take-le}
use Rattle.card.specs.Fields.{question_size, answer_at, parts, parts_of}
use Rattle.card.proofs.Sizes.{size_most, answer_inside}
use Rattle.verdict.specs.Verdict.{verdict_on}
use Rattle.deck.proofs.judge_into.Goals as goal
use Rattle.deck.proofs.judge_into.Goals.{After-answer, After-answer_at-first}

-- the answer is read where it begins in the body's own version
first_is : (c : After-answer_at-first) → c.answer_at-first.result ≡ answer_at c.args.version c.args.kind
first_is c = c.answer_at-first.ensures

-- and ends inside the body
ends : (c : After-answer) → c.answer_at-first.result + c.answer.result ≤ length c.args.body.now
ends c = omega (arith, first_is (goal.at.After-answer c).After-answer_at-first, c.answer.ensures, answer_inside c.args.version c.args.kind, c.requires.1)

pub overflow_add-last : goal.overflow_add-last
overflow_add-last c = let from = c.args in
    omega (arith, first_is (goal.at.overflow_add-last c).After-answer_at-first, c.answer.ensures, answer_inside from.version from.kind, size_most from.version from.kind)

pub slice_bounds-judge-end : goal.slice_bounds-judge-end
slice_bounds-judge-end c = sym (length-take-le question_size c.args.body.now (omega (arith, c.requires.1)))

pub slice_bounds-judge-end-2 : goal.slice_bounds-judge-end-2
slice_bounds-judge-end-2 c = ends (goal.at.slice_bounds-judge-end-2 c).After-answer

-- the two parts are those of the definition
parts_are : (c : After-answer) → let from = c.args in let first = c.answer_at-first.result in
    parts (take question_size from.body.now) (take (first + c.answer.result - first) (drop first from.body.now)) ≡ parts_of from.version from.kind from.body.now
parts_are c = let body = c.args.body.now in
    let first = c.answer_at-first.result in
    let size : first + c.answer.result - first ≡ c.answer.result = omega arith in
    ap₂ (λ (n at : ℕ). parts (take question_size body) (take n (drop at body))) (size ∙ c.answer.ensures) (first_is (goal.at.After-answer c).After-answer_at-first)

pub returns : goal.returns
returns c = record { result_value = c.judge-verdict.ensures ∙ ap (verdict_on c.args.kind) (parts_are (goal.at.returns c).After-answer); verdicts_after = ap (set c.args.verdicts.now 0) c.number.ensures }
