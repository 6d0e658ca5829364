-- `writer::fill` meets its contract: the contents that the kinds name are those of the cards' deck, and the bodies stand behind them.
use mathlib.Core.Path.{sym, ap, ap₂, ◌∙◌}
use mathlib.Core.List.{List, ◌++◌}
use Prim.Native.Nat.{ℕ}
use native.Mathlib.Omega.{arith}
use Rattle.pieces.specs.Page.{written}
use Rattle.pieces.proofs.Pages.{two, inside}
use Rattle.layout.specs.Layout.{bodies_of, contents_for}
use Rattle.layout.proofs.Contents.{contents_first}
use Rattle.layout.proofs.Packed.{as_many, same_fields}
use Rattle.layout.proofs.Writing.{packed_means}
use Rattle.writer.proofs.fill.Goals as goal

pub bodies-requires : goal.bodies-requires
bodies-requires c = (c.requires.1, rw c.put_contents.ensures (inside _ _))

pub returns : goal.returns
returns c = λ d e.
    let v = c.args.version in
    let kinds = c.args.kinds.now in
    let fields = c.args.fields.now in
    let m = packed_means v kinds fields e in
    let contents = ap₂ contents_for (sym m.1) (sym (same_fields v kinds fields d.cards m.2).0) in
    let deck = ap (λ (l : List ℕ). l ++ bodies_of d.cards) contents ∙ contents_first d (omega (arith, as_many v kinds fields d.cards m.2, c.requires.0)) in
    rw (c.bodies.ensures d.cards m.2, c.put_contents.ensures, two) (ap (written c.args.page.now) deck)
