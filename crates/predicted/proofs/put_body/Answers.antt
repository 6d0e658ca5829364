-- `predicted::put_body` meets its contract: a card's fields stand at the front of their array, which has room for them, and its body is made of them.
use mathlib.Core.Path.{sym, ap, ◌∙◌}
use mathlib.Core.List.{◌++◌}
use Prim.Native.Nat.{ℕ, ◌≤◌}
use native.Mathlib.Omega.{arith}
use lib.ListN.{length, length-append, length-replicate}
use lib.Seq.{length-take-le}
use Rattle.std.proofs.Common.{rules}
use Rattle.pieces.specs.Page.{written}
use Rattle.pieces.proofs.Puts.{front}
use Rattle.pieces.proofs.Pages.{pages, within, given_back}
use Rattle.conic.specs.Said as conic
use Rattle.card.specs.Fields.{largest_fields}
use Rattle.card.specs.Made.{body_from, kind_for, answer_for}
use Rattle.card.proofs.Packed.{own_most, answer_length, body_back}
use Rattle.predicted.specs.Predicted.{given_in}
use Rattle.predicted.proofs.put_body.Goals as goal

pub slice_bounds-fields-end : goal.slice_bounds-fields-end
slice_bounds-fields-end c = within _ _ c.put_card.ensures (search (rules, pages))

pub slice_bounds-put_body-end : goal.slice_bounds-put_body-end
slice_bounds-put_body-end c = sym (length-take-le _ _ (within _ _ c.put_card.ensures (search (rules, pages))))

pub returns : goal.returns
returns c = let given = given_in c.args.made in
    let tag = c.args.tag.now in
    let said = conic.said c.args.made.outcome in
    let kind = c.args.kind in
    let rest = tag ++ answer_for said in
    let long : length (given ++ rest) ≤ largest_fields = omega (arith, length-append given rest, length-append tag (answer_for said), c.requires.0, c.requires.1, answer_length said, own_most (kind_for said)) in
    c.put_body.ensures ∙ ap (written c.args.page.now) (ap (body_from kind) (front (given_back _ _ c.put_card.ensures (search (rules, pages))) (omega (arith, long, length-replicate {A = ℕ} largest_fields 0))).1 ∙ body_back kind given rest c.requires.0)
