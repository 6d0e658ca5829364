-- `maker::make` writes the reply to what it read: the page has room for any deck, so its front is the reply.
use Rattle.std.proofs.Common.{ℕ, List, take, replicate, sym}
use lib.ListN.{length-replicate}
use Rattle.pieces.proofs.Puts.{InFront}
use Rattle.contents.specs.Contents.{largest_deck}
use Rattle.reply.specs.Reply.{reply_of}
use Rattle.reply.proofs.Replied.{reply_stands}
use Rattle.maker.specs.Made.{deck_made}
use Rattle.maker.proofs.make.Given as given
use Rattle.maker.proofs.make.Goals as goal
use Rattle.maker.proofs.make.Goals.{After-reply-end}

-- what was read, and the part of the page up to where its reply ends
abbrev came : (g : given.Over) → After-reply-end g → List ℕ
came g c = take c.read-got.result c.read-got.new.space

made : (g : given.Over) (c : After-reply-end g) → InFront (reply_of (deck_made c.args.asked (came g c))) c.reply-end.new.page c.reply-end.result
made g c =
    reply_stands
    (deck_made c.args.asked (came g c))
    (replicate largest_deck 0)
    (sym (length-replicate {A = ℕ} largest_deck 0))
    c.made-answer.ensures.result_value
    c.made-answer.ensures.page_after
    c.reply-end.ensures.value
    c.reply-end.ensures.page_after

pub slice_bounds-page-end : goal.slice_bounds-page-end
slice_bounds-page-end g c = (made g (goal.at.slice_bounds-page-end g c).After-reply-end).within

pub slice_bounds-write-end-2 : goal.slice_bounds-write-end-2
slice_bounds-write-end-2 g c = (made g (goal.at.slice_bounds-write-end-2 g c).After-reply-end).long

pub write-requires : goal.write-requires
write-requires g c = (made g (goal.at.write-requires g c).After-reply-end).is
