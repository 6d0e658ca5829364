-- `layout::put_spared` meets its contract: problem, spare and the rest, one behind the other. Fields of fewer than 68 bytes are all taken for the
-- problem.
use Rattle.std.proofs.Common.{◌≡◌, take, drop, ap, ◌∙◌}
use Rattle.std.proofs.lemmas.List.{take_min, drop_min}
use Rattle.pieces.proofs.Pages.{pages}
use Rattle.card.specs.Fields.{problem_size}
use Rattle.layout.proofs.put_spared.Goals as goal

pub returns : goal.returns
returns c =
    let fields = c.args.fields.now in
    let question_is : c.split_at.result.0.now ≡ take problem_size fields = c.split_at.ensures.front ∙ ap (λ n. take n fields) c.min.ensures ∙ take_min problem_size fields in
    let rest_is : c.split_at.result.1.now ≡ drop problem_size fields = c.split_at.ensures.back ∙ ap (λ n. drop n fields) c.min.ensures ∙ drop_min problem_size fields in
    rw (c.put-2.ensures, c.put_half.ensures, c.put.ensures, question_is, rest_is) (simp pages)
