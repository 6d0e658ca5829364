-- What it is for a contract to have one result: RULES, How tight the statements are 2. Definitions only.
use Rattle.std.specs.Prelude.{ℕ, ◌≡◌, List}
use contract.Lifetimes.{Lfts}
use denote.Triple.Clauses.{Lasts, at_exit}
use borrow.Fn.Kinds.{ParamKind, ResultKind, Out, Dens, res_t, ended_of}

-- S says the same of no two answers
abbrev pub OneToOne : {A B : Type 0} → (A → B) → Type 0
OneToOne {A} S = (a b : A) → S a ≡ S b → a ≡ b

-- P is what a function's `ensures` tell a caller together, of the lifetimes κs, the arguments a, the result, and the parameters at exit: Rattle
-- makes it of the contract, as `Learnt` of the function's `Reads`. n, ps and r are the kinds of lifetimes, parameters and result, likewise of its
-- `Kinds`. For the same arguments P holds of one result alone, and of one last content of each parameter that has one.
abbrev pub Fixes : (n : ℕ) (ps : List (ParamKind n)) (r : ResultKind n) → Out n ps r → Type 0
Fixes n ps r P =
    (κs : Lfts n) (a : Dens κs ps) (x y : (res_t r κs).Denot) (v w : Lasts (ended_of n ps r) κs a)
    → P κs a x (at_exit (ended_of n ps r) κs a v) → P κs a y (at_exit (ended_of n ps r) κs a w) → (x ≡ y) × (v ≡ w)
