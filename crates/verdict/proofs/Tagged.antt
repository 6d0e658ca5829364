-- Object and epoch change no verdict: a card of version 2 has the verdict of the card of version 1 with the same other bytes, since it has the same
-- parts (card's `untagged`). So two cards of version 2 that differ in object and epoch alone have the same verdict.
use mathlib.Core.Path.{◌≡◌, sym, ap, ◌∙◌}
use mathlib.Core.List.{List, ◌++◌}
use Prim.Native.Nat.{ℕ, ◌+◌}
use native.Mathlib.Omega.{arith}
use lib.ListN.{length, take, drop, take-append-drop, length-append, length-drop}
use lib.Seq.{length-take-le}
use Rattle.words.proofs.Standing.{stands}
use Rattle.version.specs.declared.Version.TheVariants as version
use Rattle.version.specs.Version.{tag_size}
use Rattle.card.specs.declared.Kind.{Kind}
use Rattle.card.specs.Fields.{size_of, tag_at}
use Rattle.card.proofs.Sizes.{tag_inside}
use Rattle.card.proofs.Parts.{untagged}
use Rattle.verdict.specs.Verdict.{verdict_on, verdict_of}

pub untagged_verdict : (k : Kind) (front tag rest : List ℕ) → length front ≡ tag_at k → length tag ≡ tag_size version.Two
    → verdict_of version.Two (record { kind = k; body = front ++ (tag ++ rest) }) ≡ verdict_of version.One (record { kind = k; body = front ++ rest })
untagged_verdict k front tag rest f t = ap (verdict_on k) (untagged k front tag rest f t)

pub tag_changes_nothing : (k : Kind) (front tag other rest : List ℕ) → length front ≡ tag_at k → length tag ≡ tag_size version.Two → length other ≡ tag_size version.Two
    → verdict_of version.Two (record { kind = k; body = front ++ (tag ++ rest) }) ≡ verdict_of version.Two (record { kind = k; body = front ++ (other ++ rest) })
tag_changes_nothing k front tag other rest f t o = untagged_verdict k front tag rest f t ∙ sym (untagged_verdict k front other rest f o)

-- ---- from a whole body of version 2

-- its bytes without object and epoch
abbrev pub without_tag : Kind → (body : List ℕ) → List ℕ
without_tag k body = take (tag_at k) body ++ drop (tag_at k + tag_size version.Two) body

module _ (k : Kind) (body : List ℕ) (sized : length body ≡ size_of version.Two k) where
  front_size : length (take (tag_at k) body) ≡ tag_at k
  front_size = length-take-le (tag_at k) body (omega (arith, sized, tag_inside k))

  -- they are the bytes of a body of version 1
  pub without_size : length (without_tag k body) ≡ size_of version.One k
  unfolding tag_size
  without_size = simp (length-append, length-drop) (omega (arith, sized, front_size, tag_inside k))

  tag_size_lem : length (take (tag_size version.Two) (drop (tag_at k) body)) ≡ tag_size version.Two
  tag_size_lem = length-take-le (tag_size version.Two) (drop (tag_at k) body) (omega (arith, sized, length-drop (tag_at k) body, tag_inside k))

  whole : body ≡ take (tag_at k) body ++ (take (tag_size version.Two) (drop (tag_at k) body) ++ drop (tag_at k + tag_size version.Two) body)
  whole = sym (take-append-drop (tag_at k) body) ∙ ap (λ (rest : List ℕ). take (tag_at k) body ++ rest) (stands body (tag_at k) (tag_size version.Two))

  -- and that body has the verdict
  pub without_verdict : verdict_of version.Two (record { kind = k; body = body }) ≡ verdict_of version.One (record { kind = k; body = without_tag k body })
  without_verdict =
      ap (λ (b : List ℕ). verdict_of version.Two (record { kind = k; body = b })) whole
      ∙ untagged_verdict k (take (tag_at k) body) (take (tag_size version.Two) (drop (tag_at k) body)) (drop (tag_at k + tag_size version.Two) body) front_size tag_size_lem
