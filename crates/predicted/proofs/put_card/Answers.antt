-- `predicted::put_card` meets its contract: the words of the numbers, the limit, object and epoch, and the answer, one behind the other.
use Rattle.pieces.proofs.Pages.{inside}
use Rattle.predicted.proofs.put_card.Goals as goal

pub put_answer-requires : goal.put_answer-requires
put_answer-requires c = rw c.put.ensures (inside _ _)
