-- What `time` answers says one thing, so the contract has one answer. And a verdict comes from one row of tests alone.
use mathlib.Core.Path.{◌≡◌, refl}
use lib.Ieee.{Float}
use Prim.Native.Nat.{ℕ}
use Rattle.coincidence.specs.Coincidence.{OneToOne}
use Rattle.rows.specs.Rows.{Checked, pass, refuse}
use Rattle.rows.proofs.Laws.{checked_once}
use Rattle.ruling.specs.Said.{rejected}
use Rattle.compared.specs.Said.{by_number, as_solved, as_refused}

pub by_number_once : {A : Type 0} → OneToOne (by_number {A = A})
by_number_once = checked_once (λ k. k) (λ k. k) (λ k. refl)

pub timing_once : OneToOne (by_number {A = Float})
timing_once = by_number_once

pub as_solved_lem : (c d : Checked Float) → as_solved c ≡ as_solved d → c ≡ d
as_solved_lem (pass a) (pass b) e = cc
as_solved_lem (pass a) (refuse k) e = cc
as_solved_lem (refuse k) (pass a) e = cc
as_solved_lem (refuse k) (refuse n) e = cc

pub as_refused_lem : (c : Checked (Unit {0})) (n : ℕ) → as_refused c ≡ rejected n → c ≡ refuse n
as_refused_lem (pass good) n e = cc
as_refused_lem (refuse k) n e = cc
