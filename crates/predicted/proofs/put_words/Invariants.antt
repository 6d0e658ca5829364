-- What lasts over the turns of `predicted::put_words`.
use lib.ListN.{drop}
use Rattle.pieces.proofs.InPieces.{InPieces}
use Rattle.words.specs.Words.{words_bytes}
use Rattle.predicted.proofs.put_words.Given as goal

abbrev pub invariant-loop-word : goal.invariant-loop-word
invariant-loop-word l = InPieces l.initial.page (words_bytes l.list) l.page (words_bytes (drop l.word-index l.list))
