-- A card of version 1 has the verdict that it had before there was a version 2. The rules as they stood then are restated here, with the places of
-- a body in literal numbers; what a verdict reads of a card now, in what it asks and in what it answers, stands at these places.
use mathlib.Core.Path.{◌≡◌, fun_ext}
use mathlib.Core.Bool.{true, ◌&&◌}
use mathlib.Core.List.{List}
use Prim.Native.Nat.{ℕ, ◌+◌}
use native.Mathlib.Omega.{arith}
use borrow.Author.Tests.{leb-true}
use lib.Dec.{leb, eqb}
use lib.Ieee.{Float}
use lib.ListN.{length, take, drop}
use Rattle.words.specs.Words.{value_at}
use Rattle.words.proofs.Standing.{value_at_part}
use Rattle.rows.specs.Rows.{Checked, pass, must, onward}
use Rattle.conic.specs.declared.State.{State}
use Rattle.conic.specs.TimeAndRatio.{time_at}
use Rattle.conic.specs.Unfolding.{arrival_at}
use Rattle.entry.specs.Entry.{entry_of}
use Rattle.kepler.specs.Kepler.{kepler_of}
use Rattle.vectors.specs.declared.Vector.{Vector}
use Rattle.arc.specs.Arc as arc
use Rattle.arc_entry.specs.ArcEntry as arc_entry
use Rattle.version.specs.declared.Version.TheVariants as version
use Rattle.version.specs.Version.{tag_size}
use Rattle.card.specs.declared.Kind.{Kind}
use Rattle.card.specs.declared.Kind.TheVariants as kind
use Rattle.card.specs.Fields.{question_size, answer_size, answer_at, size_of, number_at, problem_of, way_of, transfer_by, transfer_of}
use Rattle.card.proofs.Parts.{question_reads}
use Rattle.ruling.specs.Said.{Said}
use Rattle.compared.specs.Said.{as_solved, as_refused}
use Rattle.compared.specs.Compared.{answered_by, same_words}
use Rattle.transfer_verdict.specs.TransferVerdict.{same_velocity, at_z, transfer_card}
use Rattle.verdict.specs.Verdict.{same_state, at_x, solved_card, is_refused_as, refused_card, verdict_on, verdict_of}

-- ---- the rules as they stood before version 2

-- a solved card: the spare at 68, x at 72, position at 80, velocity at 104
unfoldable pub earlier_solved : (body : List ℕ) → Checked Float
earlier_solved body =
    must (eqb (value_at 4 body 68) 0) 23
    (onward (entry_of (problem_of body)) (λ e.
    answered_by (time_at e.0) e.0.t e.0.f4 (arrival_at e.0) (λ state. same_words body 80 state.r && same_words body 104 state.v) e.1 (number_at body 72)))

-- a refused card: the spare at 68, the number at 72, the last spare at 76
unfoldable pub earlier_refused : (body : List ℕ) → Checked (Unit {0})
earlier_refused body =
    must (eqb (value_at 4 body 68) 0 && eqb (value_at 4 body 76) 0) 23
    (must (is_refused_as (kepler_of (problem_of body)) (value_at 4 body 72)) 24
    (pass tt))

-- a solved transfer: the way at 68, z at 72, the velocity at 80
unfoldable pub earlier_transfer : (body : List ℕ) → Checked Float
earlier_transfer body =
    onward (onward (way_of (value_at 4 body 68)) (λ w. pass (transfer_by body w))) (λ q.
    onward (arc_entry.entry_of q) (λ e.
    answered_by (arc.time_at e.0) e.0.t e.0.f4 (arc.velocity_at e.0) (λ v. same_words body 80 v) e.1 (number_at body 72)))

unfoldable pub earlier_verdict : Kind → (body : List ℕ) → Said
earlier_verdict kind.Solved body = as_solved (earlier_solved body)
earlier_verdict kind.Refused body = as_refused (earlier_refused body)
earlier_verdict kind.Transfer body = as_solved (earlier_transfer body)

-- ---- the places of a body of version 1 in its parts

module _ (k : Kind) (body : List ℕ) (sized : length body ≡ size_of version.One k) where
  asked_at : (n at : ℕ) → leb (at + n) question_size ≡ true → value_at n (take question_size body) at ≡ value_at n body at
  asked_at n at h = question_reads version.One k body sized n at (leb-true (at + n) question_size h)

  answered_at : (n at : ℕ) → leb (at + n) (answer_size k) ≡ true → value_at n (take (answer_size k) (drop question_size body)) at ≡ value_at n body (question_size + at)
  answered_at n at h = value_at_part n body question_size (answer_size k) at (omega (arith, sized)) (leb-true (at + n) (answer_size k) h)

-- the vectors of a solved card, and that of a transfer, are compared at the same places
same_state_lem : (body : List ℕ) → length body ≡ size_of version.One kind.Solved → (state : State) → same_state (take (answer_size kind.Solved) (drop question_size body)) state ≡ same_words body 80 state.r && same_words body 104 state.v
unfolding answer_size
same_state_lem body sized state = simp (answered_at kind.Solved body sized)

same_velocity_lem : (body : List ℕ) → length body ≡ size_of version.One kind.Transfer → (v : Vector) → same_velocity (take (answer_size kind.Transfer) (drop question_size body)) v ≡ same_words body 80 v
unfolding answer_size
same_velocity_lem body sized v = simp (answered_at kind.Transfer body sized)

-- ---- so each row is what it was

pub earlier_verdict_lem : (k : Kind) (body : List ℕ) → length body ≡ size_of version.One k → verdict_of version.One (record { kind = k; body = body }) ≡ earlier_verdict k body
unfolding verdict_on solved_card at_x refused_card transfer_card at_z problem_of transfer_of answer_size answer_at tag_size earlier_verdict earlier_solved earlier_refused earlier_transfer
earlier_verdict_lem kind.Solved body sized = simp (asked_at kind.Solved body sized, answered_at kind.Solved body sized, fun_ext (same_state_lem body sized))
earlier_verdict_lem kind.Refused body sized = simp (asked_at kind.Refused body sized, answered_at kind.Refused body sized)
earlier_verdict_lem kind.Transfer body sized = simp (asked_at kind.Transfer body sized, answered_at kind.Transfer body sized, fun_ext (same_velocity_lem body sized))
