-- `short_buffer::tell` is safe and ends: the line ends inside the page.
use Rattle.std.proofs.Common.{rules, sym, length-take-le}
use Rattle.pieces.proofs.Pages.{pages, within}
use Rattle.short_buffer.proofs.tell.Goals as goal

pub slice_bounds-space-end : goal.slice_bounds-space-end
slice_bounds-space-end g c = within _ _ c.put-4.ensures (search (rules, pages))

pub slice_bounds-write-end : goal.slice_bounds-write-end
slice_bounds-write-end g c = sym (length-take-le _ _ (within _ _ c.put-4.ensures (search (rules, pages))))
