-- A loop that writes piece by piece what a definition makes from the front: what is left, written where the last piece ended, makes the whole.
use mathlib.Core.Path.{◌≡◌, refl, sym, ap, ◌∙◌}
use mathlib.Core.List.{List, [], ◌++◌}
use Prim.Native.Nat.{ℕ, ◌≤◌}
use lib.ListN.{length}
use Rattle.pieces.specs.declared.Page.{Page}
use Rattle.pieces.specs.Page.{written}
use Rattle.pieces.proofs.Pages as pages

pub record InPieces (start : Page) (whole : List ℕ) (page : Page) (left : List ℕ) : Type 0 where
  pub inside : page.at ≤ length page.bytes.now
  to_come : written page left ≡ written start whole

-- what is lent stays as long as it was
pub as_long : {start page : Page} {whole left : List ℕ} → InPieces start whole page left → length page.bytes.now ≡ length start.bytes.now
as_long {start = start} {page = page} {whole = whole} {left = left} g = sym (pages.as_long page left) ∙ ap (λ (p : Page). length p.bytes.now) g.to_come ∙ pages.as_long start whole

-- before the first piece
pub nothing_yet : {page : Page} (whole : List ℕ) → page.at ≤ length page.bytes.now → InPieces page whole page whole
nothing_yet whole h = record { inside = h; to_come = refl }

-- a piece of what is left is written
pub one_on : {start page after : Page} {whole left rest : List ℕ} (piece : List ℕ) → InPieces start whole page left → piece ++ rest ≡ left → after ≡ written page piece → InPieces start whole after rest
one_on {page = page} piece g e p = record { inside = rw p (pages.inside page piece); to_come = rw (p, pages.two) (ap (written page) e ∙ g.to_come) }

-- nothing is left
pub all_there : {start page : Page} {whole left : List ℕ} → InPieces start whole page left → left ≡ [] → page ≡ written start whole
all_there {page = page} g e = sym (pages.nothing page g.inside) ∙ ap (written page) (sym e) ∙ g.to_come
