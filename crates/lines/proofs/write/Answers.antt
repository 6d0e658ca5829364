-- `lines::write` meets its contract.
use mathlib.Core.Path.{◌≡◌, refl, sym, ap, ap₂, ◌∙◌}
use mathlib.Core.List.{List, [], ◌∷◌, ◌++◌}
use Prim.Native.Nat.{ℕ, ◌+◌, ◌≤◌, ◌<◌, min}
use native.Mathlib.Nat.{le_of_eq}
use native.Mathlib.Omega.{arith}
use lib.ListN.{length, take, drop, length-append, drop_of_length-le}
use lib.Seq.{take-append_seam, drop-append_seam}
use Rattle.std.proofs.Common.{inl, inr, rules}
use Rattle.std.proofs.lemmas.Bool.{cases_lt}
use Rattle.std.specs.Slice.Iter.{chunks_size}
use Rattle.pieces.specs.declared.Page.{Page}
use Rattle.pieces.specs.Page.{written}
use Rattle.pieces.proofs.InPieces.{InPieces, nothing_yet, one_on, all_there}
use Rattle.text.specs.Text.{text}
use Rattle.line.specs.declared.Question.{Question}
use Rattle.line.specs.Line.{width_of, line_of}
use Rattle.lines.specs.Lines.{left_over, lines_of}
use Rattle.line.proofs.Widths.{width_least}
use Rattle.lines.proofs.Records.{first_line, no_line}
use Rattle.lines.proofs.write.Goals as goal

nothing : (asked : Question) (rest : List ℕ) → length rest ≤ 0 → lines_of asked rest ≡ []
nothing asked rest h = rw (drop_of_length-le rest h) (no_line asked [] (omega (arith, width_least asked)))

cut : (bytes : List ℕ) → 0 < length bytes → left_over bytes ≡ text "short\n"
cut [] h = absurd (omega arith)
cut (b ∷ bytes) h = refl

-- a record that is cut off is all that is left
last_one : (asked : Question) (rest part others : List ℕ) → rest ≡ part ++ others → length part ≡ min (width_of asked) (length rest) → 0 < length rest → length part < width_of asked
    → lines_of asked rest ≡ text "short\n" ++ lines_of asked others
last_one asked rest part others parts size some less =
    let sum : length rest ≡ length part + length others = ap length parts ∙ length-append part others in
    let gone : lines_of asked others ≡ [] = nothing asked others (omega arith) in
    rw gone (no_line asked rest (omega arith) ∙ cut rest some)

whole_one : (asked : Question) (rest part others : List ℕ) → rest ≡ part ++ others → length part ≡ min (width_of asked) (length rest) → width_of asked ≤ length part
    → lines_of asked rest ≡ line_of asked part ++ lines_of asked others
whole_one asked rest part others parts size long =
    let w : width_of asked ≡ length part = omega arith in
    first_line asked rest (omega arith)
    ∙ ap (λ (n : ℕ). line_of asked (take n rest) ++ lines_of asked (drop n rest)) w
    ∙ ap (λ (l : List ℕ). line_of asked (take (length part) l) ++ lines_of asked (drop (length part) l)) parts
    ∙ ap₂ (λ (a b : List ℕ). line_of asked a ++ lines_of asked b) (take-append_seam part others) (drop-append_seam part others)

turn : (asked : Question) {whole rest : List ℕ} {start page next : Page} (part others : List ℕ) → InPieces start whole page (lines_of asked rest) → rest ≡ part ++ others → length part ≡ min (width_of asked) (length rest) → 0 < length rest
    → (length part < width_of asked → next ≡ written page (text "short\n")) → (width_of asked ≤ length part → next ≡ written page (line_of asked part)) → InPieces start whole next (lines_of asked others)
turn asked {rest = rest} part others g parts size some cut_off whole =
    elim (cases_lt (length part) (width_of asked)) [
      | inl less ↦ one_on (text "short\n") g (sym (last_one asked rest part others parts size some less)) (cut_off less)
      | inr long ↦ one_on (line_of asked part) g (sym (whole_one asked rest part others parts size long)) (whole long)
    ]

pub loop-part-init : goal.loop-part-init
loop-part-init c =
    let made = c.into_iter-part-iterator.ensures.into_iter_gives in
    let size = ap chunks_size made ∙ c.chunks-part-items.ensures.size ∙ c.width.ensures in
    (omega (arith, size, width_least c.args.asked), tt, size, rw made (rw c.chunks-part-items.ensures.rest (nothing_yet (lines_of c.args.asked c.args.s.now) c.requires)))

pub loop-part-preserved : goal.loop-part-preserved
loop-part-preserved c =
    let steps = c.in-Some.ensures.steps in
    let size = c.loop-part.invariant.2 in
    (search rules, tt, steps.0 ∙ size, turn c.args.asked c.in-Some.part.now _ c.loop-part.invariant.3 steps.1.0 (rw size at steps.1.1) steps.1.2 c.put.ensures.cut_off c.put.ensures.whole)

pub returns : goal.returns
returns c = all_there c.loop-part.invariant.3 (nothing c.args.asked _ (le_of_eq c.in-None.ensures.steps.1.0))
