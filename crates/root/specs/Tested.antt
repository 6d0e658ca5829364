-- What the tests before a root promise of each case. Nothing that a caller of `root` sees depends on it. Definitions only.
use Rattle.std.specs.Prelude.{◌≡◌, true, false, ℕ, ◌<◌, Float, Option, Some, None, Result, Ok, Err}
use Rattle.std.specs.Float.{binary64}
use Rattle.std.specs.Float.Ieee.{of_bits, eq}
use Rattle.exact.specs.Numbers.{nought}
use Rattle.root.specs.declared.Reason.{Reason}
use Rattle.root.specs.Said.{root, refused, reason_number}
use Rattle.root.specs.Root.{nearest_root, root_of}

-- a number above zero, and its word; zero; or a refusal
abbrev pub Tested : Float → Result (Option ℕ) Reason → Type 0
Tested x (Ok (Some w)) = (eq x nought ≡ false) × (root_of x ≡ root (nearest_root x)) × (of_bits binary64 w ≡ x) × (0 < w) × (w < 0x7ff0_0000_0000_0000)
Tested x (Ok None) = (eq x nought ≡ true) × (root_of x ≡ root x)
Tested x (Err why) = root_of x ≡ refused (reason_number why)
