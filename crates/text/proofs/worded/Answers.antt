-- `text::worded` meets its contract. The invariant: the digits that are left to find, and those found, are the 16 of the word; the space stands.
use mathlib.Core.Path.{◌≡◌, refl, sym, ap, ◌∙◌}
use mathlib.Core.List.{List, [], ◌∷◌, ◌++◌}
use Prim.Native.Nat.{ℕ, suc, ◌-◌, ◌/◌, ◌%◌, ◌≤◌, ◌<◌}
use native.Mathlib.Omega.{arith}
use lib.ListN.{drop, set, length-set, take-append-drop}
use lib.Seq.{take-set-le, append_snoc}
use Rattle.text.specs.Text.{digit, hex, worded}
use Rattle.text.proofs.Digits.{digit_before}
use Rattle.text.proofs.worded.Invariants.{Found}
use Rattle.text.proofs.worded.Goals as goal

one_digit : (k n : ℕ) → hex (suc k) n ≡ hex k (n / 16) ++ (digit (n % 16) ∷ [])
unfolding hex
one_digit k n = refl

no_digit : (n : ℕ) → hex (1 - 1) n ≡ []
unfolding hex
no_digit n = refl

turn : {w left rest d : ℕ} {digits : List ℕ} → Found w digits left rest → 1 < left → d ≡ digit (rest % 16) → Found w (set digits (left - 1) d) (left - 1) (rest / 16)
turn {w} {left} {rest} {d} {digits} p h e =
    let one-back : left - 1 ≡ suc (left - 1 - 1) = omega arith in
    let split : hex (left - 1) rest ≡ hex (left - 1 - 1) (rest / 16) ++ (d ∷ []) = ap (λ (k : ℕ). hex k rest) one-back ∙ one_digit (left - 1 - 1) rest ∙ ap (λ (b : ℕ). hex (left - 1 - 1) (rest / 16) ++ (b ∷ [])) (sym e) in
    record {
      long = length-set digits (left - 1) d ∙ p.long;
      least = omega arith;
      most = omega (arith, p.most);
      spaced = take-set-le 1 digits (left - 1) d (omega arith) ∙ p.spaced;
      all =
          p.all
          ∙ ap (λ (l : List ℕ). l ++ drop left digits) split
          ∙ append_snoc (hex (left - 1 - 1) (rest / 16)) d (drop left digits)
          ∙ ap (λ (l : List ℕ). hex (left - 1 - 1) (rest / 16) ++ l) (sym (digit_before digits left d (omega arith) (omega (arith, p.long, p.most))));
    }

finished : {w left rest : ℕ} {digits : List ℕ} → Found w digits left rest → left ≤ 1 → digits ≡ worded w
finished {w} {left} {rest} {digits} p h =
    let one : left ≡ 1 = omega (arith, p.least) in
    let rest-is : hex 16 w ≡ drop 1 digits = p.all ∙ ap (λ (k : ℕ). hex (k - 1) rest ++ drop k digits) one ∙ ap (λ (l : List ℕ). l ++ drop 1 digits) (no_digit rest) in
    sym (take-append-drop 1 digits) ∙ ap (λ (l : List ℕ). l ++ drop 1 digits) p.spaced ∙ ap (λ (l : List ℕ). 32 ∷ l) (sym rest-is)

pub loop-place-preserved : goal.loop-place-preserved
loop-place-preserved c = turn c.loop-place.invariant c.loop-place-test.true c.digit.ensures

pub returns : goal.returns
returns c = finished c.loop-place.invariant c.loop-place-test.false
