-- `sheets::sheet_of` meets its contract: a number that has a last sheet has all of them, and the digits on each are small.
use mathlib.Core.Path.{◌≡◌, sym, ap, ◌∙◌}
use Prim.Native.Nat.{ℕ, ◌≤◌}
use native.Mathlib.Nat.{min-eq_left}
use lib.Ieee.{Float, binary64}
use Rattle.exact.specs.Numbers.{steps}
use Rattle.exact.proofs.Basics.{passed}
use Rattle.std.proofs.Common.{rules}
use Rattle.std.specs.Prelude.{Some, Ok}
use Rattle.root.specs.Paper.{whole_of, after_turns, sheet, shown, sheet_of}
use Rattle.root.proofs.Paper.{digits_small}
use Rattle.root.proofs.Sheets.{holds_on_each, has_each, one_shown, shown_once}
use Rattle.sheets.specs.Sheets.{Worked}
use Rattle.sheets.proofs.sheet_of.Goals as goal
use Rattle.sheets.proofs.sheet_of.Goals.{After-sheet_after, in_default-via-in-Ok+in_default, in_default-via-in_default}

is_there : {x : Float} (n : ℕ) → n ≤ 54 → Worked x → sheet_of x n ≡ sheet (after_turns (whole_of (steps binary64 x)) n)
is_there {x} n h w = has_each x 54 n w.last w.is ∙ ap (λ (k : ℕ). sheet (after_turns (whole_of (steps binary64 x)) k)) (min-eq_left h)

-- so there is a sheet
there : (c : After-sheet_after) → c.sheet_after.result ≡ Ok (Some (after_turns (whole_of (steps binary64 c.args.x)) c.args.n))
there c = shown_once _ _ (c.sheet_after.ensures ∙ is_there c.args.n c.requires.0 c.requires.1)

pub unreachable-requires : goal.unreachable-requires
unreachable-requires c = let h = there (goal.at.unreachable-requires c).After-sheet_after in elim c.in_default.branch [ in_default-via-in-Ok+in_default w ↦ search rules | in_default-via-in_default w ↦ search rules ]

pub returns : goal.returns
returns c =
    let shows = ap shown (ap Ok (sym c.in-Ok-Some.field-0-is)) ∙ c.in-Ok-Some.ensures in
    (digits_small (holds_on_each c.args.x (passed c.well_formed.0.1) c.args.n c.in-Ok-Some.sheet (sym shows)), one_shown (shows ∙ is_there c.args.n c.requires.0 c.requires.1))
