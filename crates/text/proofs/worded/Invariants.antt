-- What lasts over the turns of `text::worded`.
use mathlib.Core.Path.{◌≡◌}
use mathlib.Core.List.{List, [], ◌∷◌, ◌++◌}
use Prim.Native.Nat.{ℕ, ◌-◌, ◌≤◌}
use lib.ListN.{length, take, drop}
use Rattle.text.specs.Text.{hex}
use Rattle.text.proofs.worded.Given as goal

pub record Found (w : ℕ) (digits : List ℕ) (left rest : ℕ) : Type 0 where
  pub long : length digits ≡ 17
  pub least : 1 ≤ left
  pub most : left ≤ 17
  pub spaced : take 1 digits ≡ 32 ∷ []
  pub all : hex 16 w ≡ hex (left - 1) rest ++ drop left digits

abbrev pub invariant-loop-place : goal.invariant-loop-place
invariant-loop-place l = Found l.w l.digits l.place l.rest
