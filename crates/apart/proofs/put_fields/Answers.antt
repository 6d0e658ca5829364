-- `apart::put_fields` meets its contract: the problem, then the rest, from where it begins.
use mathlib.Core.Path.{◌≡◌, refl, sym, ap, ◌∙◌}
use mathlib.Core.List.{List, ◌++◌}
use Prim.Native.Nat.{ℕ, ◌+◌, ◌-◌}
use native.Mathlib.Omega.{arith}
use lib.ListN.{take, drop}
use lib.Seq.{length-take-le}
use Rattle.pieces.specs.Page.{written}
use Rattle.pieces.proofs.Pages.{two}
use Rattle.card.specs.Fields.{problem_size, rest_size}
use Rattle.card.specs.Made.{rest_from}
use Rattle.card.proofs.Packed.{rest_behind, rest_inside}
use Rattle.card.proofs.Sizes.{size_most}
use Rattle.apart.proofs.put_fields.Goals as goal

pub slice_bounds-put-end : goal.slice_bounds-put-end
slice_bounds-put-end c = let v = c.args.version in
    let kind = c.args.kind in
    sym (length-take-le problem_size c.args.body.now (omega (arith, c.requires, rest_behind kind, rest_inside v kind)))

pub overflow_add-last : goal.overflow_add-last
overflow_add-last c = let v = c.args.version in
    let kind = c.args.kind in
    omega (arith, c.rest_from-first.ensures, c.packed.ensures, rest_inside v kind, size_most v kind)

pub slice_bounds-put-end-2 : goal.slice_bounds-put-end-2
slice_bounds-put-end-2 c = omega (arith, c.rest_from-first.ensures, c.packed.ensures, c.requires, rest_inside c.args.version c.args.kind)

pub returns : goal.returns
returns c = let v = c.args.version in
    let kind = c.args.kind in
    let first = c.rest_from-first.result in
    let size = c.packed.result - problem_size in
    let answer : first + size - first ≡ rest_size v kind = omega (arith, c.packed.ensures) in
    let answer_is : take (first + size - first) (drop first c.args.body.now) ≡ take (rest_size v kind) (drop (rest_from kind) c.args.body.now) = rw (answer, c.rest_from-first.ensures) refl in
    c.put-2.ensures ∙ rw (c.put.ensures, two) (ap (λ (l : List ℕ). written c.args.page.now (take problem_size c.args.body.now ++ l)) answer_is)
