-- A transfer that passes the tests starts from a fair bracket (search's `Fair`): 0 to 36, with t between the times of its ends, which are kept.
use mathlib.Core.Path.{◌≡◌, refl, sym, subst}
use mathlib.Core.Bool.{true, false}
use lib.Ieee.{Float, binary64, le, of_bits}
use lib.Ieee.Bits.{is_true, of_bits-fits}
use Rattle.exact.specs.Numbers.{nought, Number, is_minus}
use Rattle.exact.proofs.Basics.{both}
use Rattle.search.specs.declared.Bracket.{Bracket}
use Rattle.search.specs.Search.{within}
use Rattle.search.proofs.Laws.{forwards}
use Rattle.search.proofs.Answers.{Fair}
use Rattle.arc.specs.declared.Transfer.{Transfer}
use Rattle.arc.specs.declared.Scaled.{Scaled}
use Rattle.arc.specs.Arc.{time_at}
use Rattle.arc.proofs.Departing.{time_fits}
use Rattle.arc_entry.specs.ArcEntry.{thirty_six}
use Rattle.arc_entry.proofs.Passed.{starting_bracket, Entered}

pub upper_number : Number binary64 thirty_six
unfolding of_bits
upper_number = (of_bits-fits binary64 0x4042_0000_0000_0000, tt)

upper_plus : is_minus thirty_six ≡ false
unfolding of_bits
upper_plus = refl

pub fair : (q : Transfer) (o : Scaled) (b : Bracket) → Entered q o b → Fair (time_at o) o.t b
fair q o b e =
    let s = e.start in
    subst (Fair (time_at o) o.t) (sym e.bracket_is) (record {
      starts = forwards o.t (starting_bracket o) e.t_number.0 upper_number upper_plus refl;
      time_fits = time_fits o;
      t_number = e.t_number;
      lo_finite = s.first_finite;
      hi_finite = s.last_finite;
      lo_time = s.first_reached;
      hi_time = s.last_reaches;
      lo_kept = refl;
      hi_kept = refl;
    })

-- what lies in it is at least 0 and at most 36
pub in_start_between : (q : Transfer) (o : Scaled) (b : Bracket) → Entered q o b → (z : Float) → within b z ≡ true → (le nought z ≡ true) × (le z thirty_six ≡ true)
in_start_between q o b e z w =
    let between = (both (le nought z) (le z thirty_six)).0 (subst (λ (b : Bracket). within b z ≡ true) e.bracket_is w) in
    (is_true (le nought z) between.0, is_true (le z thirty_six) between.1)
