-- A rejected card has a verdict that is above 0 and at most 108: so is every number with which a test of a card refuses, the problem's own
-- refusals and those of an arrival among them. Of refused cards and solved transfers each is below 100.
use mathlib.Core.Path.{◌≡◌, ap}
use mathlib.Core.List.{List}
use Prim.Native.Nat.{ℕ, ◌<◌}
use native.Mathlib.Omega.{arith}
use Rattle.search.specs.declared.Bracket.{Bracket}
use Rattle.conic.specs.declared.Scaled.{Scaled}
use Rattle.rows.specs.Rows.{refuse}
use Rattle.rows.proofs.Laws.{Between, between_is, Refuses, passes, must_refuses, onward_refuses, refusal_has}
use Rattle.conic.specs.Said.{input_number, inputs}
use Rattle.conic.proofs.Arrival.{arrival_refuses}
use Rattle.entry.proofs.Refusals.{entry_refuses, Numbered, others_numbered, first_numbered}
use Rattle.card.specs.declared.Kind.{Kind}
use Rattle.card.specs.declared.Kind.TheVariants as kind
use Rattle.arc_entry.proofs.Refusals.{Eight}
use Rattle.card.specs.Fields.{Parts, problem_of, x_of}
use Rattle.compared.proofs.Theorems.{as_solved_lem, as_refused_lem}
use Rattle.compared.proofs.Answered.{answered_refuses}
use Rattle.transfer_verdict.specs.TransferVerdict.{transfer_card}
use Rattle.transfer_verdict.proofs.Rejected.{transfer_refuses}
use Rattle.ruling.specs.Said.{rejected, number_in}
use Rattle.verdict.specs.Verdict.{same_state, at_x, solved_card, refused_card, verdict_on}

at_x_refuses : (answer : List ℕ) (o : Scaled) (b : Bracket) → Refuses Numbered (at_x answer o b)
unfolding at_x
at_x_refuses answer o b = answered_refuses _ o.t _ (same_state answer) b (x_of answer) o.f4 tt tt tt tt (arrival_refuses tt tt o)

solved_refuses : (card : Parts) → Refuses Numbered (solved_card card)
unfolding solved_card
solved_refuses card = must_refuses _ 23 _ tt (onward_refuses _ _ (entry_refuses others_numbered tt tt (problem_of card.question) (first_numbered _ _ _ _)) (λ e. at_x_refuses card.answer e.0 e.1))

-- ---- of two digits at most, where the problem's own refusal is not told

refused_refuses : (card : Parts) → Refuses (Between 0 100) (refused_card card)
unfolding refused_card
refused_refuses card = must_refuses _ 23 _ tt (must_refuses _ 24 _ tt passes)

pub rejected_refusal : (card : Parts) (n : ℕ) → verdict_on kind.Refused card ≡ rejected n → (0 < n) × (n < 100)
unfolding verdict_on
rejected_refusal card n e = between_is 0 100 n (refusal_has (refused_refuses card) (as_refused_lem (refused_card card) n e))

-- the eight refusals of a transfer before the first guess are such too
eight : Eight (Between 0 100)
eight = record { p1 = tt; p2 = tt; p3 = tt; p5 = tt; p6 = tt; p50 = tt; p51 = tt; p52 = tt }

pub rejected_transfer : (card : Parts) (n : ℕ) → verdict_on kind.Transfer card ≡ rejected n → (0 < n) × (n < 100)
unfolding verdict_on
rejected_transfer card n e = between_is 0 100 n (refusal_has (transfer_refuses eight tt tt tt tt card) (as_solved_lem (transfer_card card) (refuse n) e))

-- ---- of all cards

-- the number of a rejected card is above 0 and at most 108
pub rejected_numbered : (k : Kind) (card : Parts) (n : ℕ) → verdict_on k card ≡ rejected n → (0 < n) × (n < input_number inputs)
unfolding verdict_on
rejected_numbered kind.Solved card n e = let is = between_is 1 (input_number inputs) n (refusal_has (solved_refuses card) (as_solved_lem (solved_card card) (refuse n) e)) in (omega arith, is.1)
rejected_numbered kind.Refused card n e = let is = rejected_refusal card n e in (is.0, omega arith)
rejected_numbered kind.Transfer card n e = let is = rejected_transfer card n e in (is.0, omega arith)

-- so it is not 0
pub rejected_positive : (k : Kind) (card : Parts) (n : ℕ) → verdict_on k card ≡ rejected n → 0 < n
rejected_positive k card n e = (rejected_numbered k card n e).0

-- and where the number is 0, nothing is rejected
pub zero_accepts : (k : Kind) (card : Parts) → number_in (verdict_on k card) ≡ 0 → (n : ℕ) → verdict_on k card ≡ rejected n → ⊥
zero_accepts k card z n e = omega (arith, rejected_positive k card n e, ap number_in e)
