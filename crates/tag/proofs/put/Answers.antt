-- `tag::put` meets its contract: a tag that is there is a count and an epoch; that an absent one is one word, the check finds alone.
use borrow.Author.Rules.{rules}
use mir.Syntax.{w64}
use mir.Val.{SFits}
use mir.Facts.{to_z-of_z}
use Rattle.pieces.proofs.Pages.{pages}
use Rattle.tag.proofs.put.Goals as goal

pub returns-in-Some : goal.returns-in-Some
returns-in-Some c =
    let fitting : SFits w64 c.in-Some.tag.epoch = search rules in
    rw (c.in-Some.is, c.signed.ensures, c.count.ensures, to_z-of_z fitting) (simp pages)
