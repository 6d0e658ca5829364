-- `root::digits::turn` meets its contract: it is a turn of the rules, which keeps the sentence (`turn_holds`). The digits have room, since their square is no more than the radicand.
use native.Mathlib.Omega.{arith}
use Rattle.root.specs.Paper.{pair_of}
use Rattle.root.proofs.Paper.{digits_small, pairs_small, Settles, turn_settles, turn_holds}
use Rattle.root.proofs.digits.turn.Goals as goal
use Rattle.root.proofs.digits.turn.Goals.{After-struct_known-4-1}

pub overflow_mul-standing : goal.overflow_mul-standing
overflow_mul-standing c = let p = c.requires.1.1 in omega (arith, digits_small p, p.small)

pub overflow_add-standing : goal.overflow_add-standing
overflow_add-standing c = let p = c.requires.1.1 in omega (arith, digits_small p, p.small, pairs_small p)

pub overflow_mul-trial : goal.overflow_mul-trial
overflow_mul-trial c = let p = c.requires.1.1 in omega (arith, digits_small p)

pub overflow_add-trial : goal.overflow_add-trial
overflow_add-trial c = let p = c.requires.1.1 in omega (arith, digits_small p)

-- the digit that was settled is the turn's
settles : (c : After-struct_known-4-1) → let s = c.args.sheet in Settles s.digits s.remainder (pair_of s) c.settled-digit.result
settles c = rw c.settled-digit.ensures (turn_settles c.args.sheet c.requires.1.1)

pub overflow_mul-result : goal.overflow_mul-result
overflow_mul-result c = omega (arith, digits_small c.requires.1.1)

pub overflow_add-result : goal.overflow_add-result
overflow_add-result c = omega (arith, digits_small c.requires.1.1, (settles (goal.at.overflow_add-result c).After-struct_known-4-1).one)

pub overflow_mul-result-2 : goal.overflow_mul-result-2
overflow_mul-result-2 c = let p = c.requires.1.1 in omega (arith, (settles (goal.at.overflow_mul-result-2 c).After-struct_known-4-1).off, digits_small p, p.small, pairs_small p)

pub overflow_sub-result : goal.overflow_sub-result
overflow_sub-result c = omega (arith, (settles (goal.at.overflow_sub-result c).After-struct_known-4-1).off)

pub returns : goal.returns
returns c = record { left_value = omega (arith, c.requires.0); by_index = λ v p. rw c.settled-digit.ensures (turn_holds c.args.sheet c.requires.0 p) }
