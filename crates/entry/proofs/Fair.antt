-- A problem that passes the entry tests starts from a fair bracket (search's `Fair`), whose end 0 has the time 0 kept beside it, which is its own.
-- Forwards that is 0 to X, and backwards -X to 0.
use mathlib.Core.Path.{◌≡◌, refl, sym, ap, ◌∙◌, subst}
use mathlib.Core.Bool.{Bool, true, false, cond}
use lib.Ieee.{Float, lt, le, neg}
use lib.Ieee.Bits.{is_true}
use Rattle.exact.specs.Numbers.{nought, is_finite}
use Rattle.exact.proofs.Zero.{nought_number}
use Rattle.search.specs.declared.Bracket.{Bracket}
use Rattle.search.proofs.Hunt.{point_at}
use Rattle.search.proofs.Laws.{forwards, backwards}
use Rattle.search.proofs.Answers.{Fair}
use Rattle.conic.specs.declared.Problem.{Problem}
use Rattle.conic.specs.declared.Scaled.{Scaled}
use Rattle.conic.specs.TimeAndRatio.{time_at}
use Rattle.conic.proofs.Fitting.{time_fits}
use Rattle.entry.specs.Entry.{zero_end, starting_bracket}
use Rattle.entry.proofs.Passed.{Numbers, Entered}
use Rattle.entry.proofs.AtZero.{time_at_zero, not_below_zero_time, not_above_zero_time}
use Rattle.entry.proofs.FarEnd.{IsFarEnd, far_end_is}

module _ (o : Scaled) (n : Numbers o) (X : Float) (f : IsFarEnd o.alpha X) where
  zero_kept : nought ≡ time_at o nought
  zero_kept = sym (time_at_zero o n.s_number n.alpha_number)

  zero_finite : is_finite (time_at o nought) ≡ true
  zero_finite = ap is_finite (sym zero_kept) ∙ is_true (is_finite nought) nought_number.1

  to_far : le nought o.t ≡ true → is_finite (time_at o X) ≡ true → lt (time_at o X) o.t ≡ false → Fair (time_at o) o.t (record { lo = zero_end; hi = point_at (time_at o) X })
  to_far e g r = record {
    starts = forwards o.t (record { lo = zero_end; hi = point_at (time_at o) X }) n.t_number.0 f.number f.plus refl;
    time_fits = time_fits o;
    t_number = n.t_number;
    lo_finite = zero_finite;
    hi_finite = g;
    lo_time = not_below_zero_time o n.s_number n.alpha_number o.t n.t_number e;
    hi_time = r;
    lo_kept = zero_kept;
    hi_kept = refl;
  }

  from_far : le nought o.t ≡ false → is_finite (time_at o (neg X)) ≡ true → lt o.t (time_at o (neg X)) ≡ false → Fair (time_at o) o.t (record { lo = point_at (time_at o) (neg X); hi = zero_end })
  from_far e g r = record {
    starts = backwards o.t (record { lo = point_at (time_at o) (neg X); hi = zero_end }) X n.t_number.0 f.number f.plus refl refl;
    time_fits = time_fits o;
    t_number = n.t_number;
    lo_finite = g;
    hi_finite = zero_finite;
    lo_time = r;
    hi_time = not_above_zero_time o n.s_number n.alpha_number o.t n.t_number e;
    lo_kept = refl;
    hi_kept = zero_kept;
  }

pub fair : (p : Problem) (o : Scaled) (b : Bracket) → Entered p o b → Fair (time_at o) o.t b
fair p o b e = subst (Fair (time_at o) o.t) (sym e.bracket_is) (go (le nought o.t) refl)
  where
    far_is : IsFarEnd o.alpha e.far
    far_is = far_end_is o.alpha e.far e.numbers.alpha_number e.far_is

    go : (u : Bool) → le nought o.t ≡ u → Fair (time_at o) o.t (starting_bracket o.t (point_at (time_at o) (cond (le nought o.t) e.far (neg e.far))))
    go true h = rw h (to_far o e.numbers e.far far_is h (rw h at e.far_reaches.finite) (rw h at e.far_reaches.reaches))
    go false h = rw h (from_far o e.numbers e.far far_is h (rw h at e.far_reaches.finite) (rw h at e.far_reaches.reaches))
