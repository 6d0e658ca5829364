-- What `write_deck` reads comes to: 42 where version and form are not all there, and else the deck of the problems behind them. And what it reads, the
-- number of RULES, Writing a deck 8, is enough: whatever stands behind changes nothing.
use mathlib.Core.Path.{◌≡◌, refl, sym, ◌∙◌}
use mathlib.Core.List.{List, ◌++◌}
use Prim.Native.Nat.{ℕ, ◌≤◌, ◌<◌}
use native.Mathlib.Omega.{arith}
use borrow.Author.Tests.{le-leb, lt-leb}
use lib.ListN.{length, drop, length-append, length-drop}
use lib.Seq.{drop-append-le}
use Rattle.words.specs.Words.{value_at}
use Rattle.words.proofs.Written.{value_at_front}
use Rattle.rows.specs.Rows.{refuse, must}
use Rattle.problems.specs.Problems.{problem_deck}
use Rattle.problems.proofs.Theorems.{too_many_read}
use Rattle.maker.specs.Made.{asked_size, asked_deck, read_of_problems}

pub none_asked : (given : List ℕ) → length given < asked_size → asked_deck given ≡ refuse 42
unfolding asked_deck must
none_asked given h = rw (lt-leb asked_size (length given) h) refl

pub asked : (given : List ℕ) → asked_size ≤ length given → asked_deck given ≡ problem_deck (value_at 4 given 0) (value_at 4 given 4) (drop asked_size given)
unfolding asked_deck must
asked given h = rw (le-leb asked_size (length given) h) refl

pub read_of_problems_lem : read_of_problems ≡ 20568
read_of_problems_lem = refl

pub read_is_enough : (read behind : List ℕ) → length read ≡ read_of_problems → asked_deck (read ++ behind) ≡ asked_deck read
read_is_enough read behind h =
    let rest = drop asked_size read in
    asked (read ++ behind) (omega (arith, h, length-append read behind))
    ∙ rw (value_at_front 4 read behind 0 (omega (arith, h)), value_at_front 4 read behind 4 (omega (arith, h)), drop-append-le asked_size read behind (omega (arith, h)))
    (too_many_read (value_at 4 read 0) (value_at 4 read 4) rest behind (omega (arith, h, length-drop asked_size read)))
    ∙ sym (asked read (omega (arith, h)))
