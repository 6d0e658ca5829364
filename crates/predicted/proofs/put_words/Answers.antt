-- `predicted::put_words` meets its contract. The invariant: the words that are left, written behind what stands, are all words.
use mathlib.Core.Path.{◌≡◌, sym, ap, ◌∙◌}
use mathlib.Core.List.{List, [], ◌++◌}
use Prim.Native.Nat.{ℕ, ◌+◌, ◌≤◌, ◌<◌}
use native.Mathlib.Numerals.{add-one}
use native.Mathlib.Omega.{arith}
use lib.ListN.{length, drop, get_or, drop_of_length-le}
use lib.Seq.{drop-cons}
use Rattle.pieces.proofs.InPieces.{nothing_yet, one_on, all_there}
use Rattle.spelled.specs.Spelled.{bytes_of}
use Rattle.words.specs.Words.{words_bytes}
use Rattle.predicted.proofs.put_words.Goals as goal

-- the next word, and those behind it
first : (list : List ℕ) (i : ℕ) → i < length list → bytes_of 8 (get_or list i 0) ++ words_bytes (drop (i + 1) list) ≡ words_bytes (drop i list)
unfolding words_bytes
first list i h = ap (λ (n : ℕ). bytes_of 8 (get_or list i 0) ++ words_bytes (drop n list)) (add-one i) ∙ sym (ap words_bytes (drop-cons list i 0 h))

-- after the last one
none_left : (list : List ℕ) (i : ℕ) → length list ≤ i → words_bytes (drop i list) ≡ []
unfolding words_bytes
none_left list i h = ap words_bytes (drop_of_length-le list h)

pub loop-word-init : goal.loop-word-init
loop-word-init c = nothing_yet (words_bytes c.args.list.now) c.requires

pub loop-word-preserved : goal.loop-word-preserved
loop-word-preserved c = one_on _ c.loop-word.invariant (first c.args.list.now c.loop-word.word-index (omega arith)) c.put_word.ensures

pub returns : goal.returns
returns c = all_there c.loop-word.invariant (none_left c.args.list.now c.loop-word.word-index (omega arith))
