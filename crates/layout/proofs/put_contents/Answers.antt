-- `layout::put_contents` meets its contract: nothing for too many kinds, and else version, count and entries, one behind the other.
use mathlib.Core.Path.{sym, ap, ◌∙◌}
use native.Mathlib.Omega.{arith}
use Rattle.pieces.specs.Page.{written}
use Rattle.pieces.proofs.Pages.{pages, inside}
use Rattle.layout.proofs.Contents.{few_enough, too_many}
use Rattle.layout.proofs.put_contents.Goals as goal

pub returns-then-kinds-gt-MOST_CARDS : goal.returns-then-kinds-gt-MOST_CARDS
returns-then-kinds-gt-MOST_CARDS c = c.put.ensures ∙ ap (written c.args.page.now) (sym (too_many c.args.version c.args.kinds.now (omega arith)))

pub put_entries-requires : goal.put_entries-requires
put_entries-requires c = (omega arith, rw c.put_half-2.ensures (inside _ _))

pub returns : goal.returns
returns c = rw (few_enough c.args.version c.args.kinds.now (omega arith), c.put_entries.ensures, c.put_half-2.ensures, c.put_half.ensures, c.number.ensures) (simp pages)
