-- The versions of a deck: RULES, The deck and Writing a deck. Definitions only.
use Rattle.std.specs.Prelude.{ℕ, cond, eqb, Option}
use Rattle.rows.specs.Rows.{Checked, pass, refuse, must, renumbered, onward, stated}
use Rattle.version.specs.declared.Version.{Version}
use Rattle.version.specs.declared.Version.TheVariants as version

-- The deck 1: the version that 1 or 2 names; another number is refused with 31
unfoldable pub version_of : ℕ → Checked Version
version_of n = cond (eqb n 1) (pass version.One) (cond (eqb n 2) (pass version.Two) (refuse 31))

-- and the number that stands for a version
unfoldable pub version_number : Version → ℕ
version_number version.One = 1
version_number version.Two = 2

-- The deck 4, 7 and 10: the bytes of a card's object, u32, and epoch, i64, which version 1 does not have; and the most that they can be
abbrev pub largest_tag : ℕ
largest_tag = 12

unfoldable pub tag_size : Version → ℕ
tag_size version.One = 0
tag_size version.Two = largest_tag

-- Writing a deck 1: the form of what goes into a deck: 0 without object and epoch, 1 with both
unfoldable pub form_number : Version → ℕ
form_number version.One = 0
form_number version.Two = 1

-- Writing a deck 1: the version that is given; 42 for another number, and for another form than the version's
unfoldable pub version_given : (number form : ℕ) → Checked Version
version_given number form =
    onward (renumbered 42 (version_of number)) (λ v.
    must (eqb form (form_number v)) 42
    (pass v))

-- The deck 1: what a number says of a deck; and Writing a deck 1: what number and form say of one that is to be written
abbrev pub named_said : Option Version → Checked Version
named_said a = stated 31 a

abbrev pub given_said : Option Version → Checked Version
given_said a = stated 42 a
