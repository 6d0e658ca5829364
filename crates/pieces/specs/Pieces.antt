-- Pieces of bytes one behind the other in a lent buffer, and a whole handed over: RULES, Text 4 and Writing a deck 5. Definitions only.
use Rattle.std.specs.Prelude.{ℕ, ◌+◌, min, ◌≡◌, cond, List, [], ◌∷◌, ◌++◌, leb, length, drop}
use Rattle.std.proofs.lemmas.List.Edits.{sets}

-- pieces one after the other
abbrev pub joined : List (List ℕ) → List ℕ
joined [] = []
joined (piece ∷ pieces) = piece ++ joined pieces

-- a piece written into a buffer from index `at` on, and where it ends: what goes past the buffer's end is cut off
unfoldable pub put_in : (buffer : List ℕ) (at : ℕ) (piece : List ℕ) → List ℕ
put_in buffer at piece = sets buffer at piece

unfoldable pub end_in : (buffer : List ℕ) (at : ℕ) (piece : List ℕ) → ℕ
end_in buffer at piece = min (at + length piece) (length buffer)

-- both at once: `piece` was written from index `at` on, up to index `end`
pub record Put (before : List ℕ) (at : ℕ) (piece after : List ℕ) (end : ℕ) : Type 0 where
  pub ends : end ≡ end_in before at piece
  pub holds : after ≡ put_in before at piece

-- Text 4: a whole text handed over in a buffer: at its front, where there is room for all of it; else the buffer stays as it was
abbrev pub handed_in : List ℕ → List ℕ → List ℕ
handed_in whole buffer = cond (leb (length whole) (length buffer)) (whole ++ drop (length whole) buffer) buffer
