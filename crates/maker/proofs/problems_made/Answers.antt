-- `maker::problems_made` meets its contract: version and form are not all there, or what is behind them is written.
use Rattle.std.proofs.Common.{◌≡◌, ◌-◌, length, take, drop, length-drop, sym, ap, ◌∙◌, arith}
use lib.Seq.{take_all}
use Rattle.layout.specs.Written.{length_for, buffer_after}
use Rattle.layout.proofs.Writing.{refused_writes}
use Rattle.problems.specs.Problems.{problem_deck}
use Rattle.maker.specs.Made.{asked_size, asked_deck}
use Rattle.maker.proofs.Theorems.{none_asked, asked}
use Rattle.maker.proofs.problems_made.Goals as goal

pub returns-then-given-lt-ASKED : goal.returns-then-given-lt-ASKED
returns-then-given-lt-ASKED c =
    let both = refused_writes c.args.page.now (none_asked c.args.given.now (omega arith)) in
    record { result_value = both.0; page_after = both.1 }

pub returns : goal.returns
returns c =
    let given = c.args.given.now in
    let rest : take (length given - asked_size) (drop asked_size given) ≡ drop asked_size given = take_all (length given - asked_size) (drop asked_size given) (omega (arith, length-drop asked_size given)) in
    let made : problem_deck c.half-number.result c.half-form.result (take (length given - asked_size) (drop asked_size given)) ≡ asked_deck given = rw (c.half-number.ensures, c.half-form.ensures, rest) (sym (asked given (omega arith))) in
    record {
      result_value = c.write.ensures.result_value ∙ ap (λ m. length_for m (length c.args.page.now)) made;
      page_after = c.write.ensures.buffer_after ∙ ap (λ m. buffer_after m c.args.page.now) made;
    }
