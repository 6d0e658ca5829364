-- `spelled::put` meets its contract: the bytes put, at once or as far as there is room, are the lowest.
use mathlib.Core.Path.{◌≡◌, refl, sym, ap, ◌∙◌}
use mathlib.Core.List.{List, ◌++◌}
use Prim.Native.Nat.{ℕ, ◌+◌, ◌-◌, ◌≤◌, min}
use native.Mathlib.Omega.{arith}
use lib.ListN.{length, take}
use lib.Seq.{take-append-le}
use mir.Syntax.{w64}
use borrow.Rule.Slice.PartMut.{put_mid}
use Rattle.std.specs.Int.{to_le_bytes}
use Rattle.pieces.specs.Pieces.{Put}
use Rattle.pieces.specs.Page.{written}
use Rattle.pieces.proofs.Puts.{over, at_once}
use Rattle.pieces.proofs.Pages.{fields}
use Rattle.spelled.specs.Spelled.{bytes_of}
use Rattle.spelled.proofs.Length.{length_bytes}
use Rattle.spelled.proofs.Lowest.{lowest}
use Rattle.spelled.proofs.put.Goals as goal

-- the bytes of w are the first eight of those that are made, whatever stands behind them
asked : (n w : ℕ) (behind : List ℕ) {k : ℕ} {bytes : List ℕ} → k ≡ min n 8 → bytes ≡ to_le_bytes w64 w ++ behind → take k bytes ≡ bytes_of (min n 8) w
asked n w behind {k} b e =
    let few : k ≤ 8 = omega (arith, b) in
    ap (take k) e ∙ take-append-le k (to_le_bytes w64 w) behind few ∙ lowest k w few refl ∙ ap (λ (j : ℕ). bytes_of j w) b

-- where there is room, as many bytes are written over as are asked for
in_room : (out : List ℕ) (at n w : ℕ) {k : ℕ} {piece : List ℕ} → at + k ≤ length out → k ≡ min n 8 → piece ≡ bytes_of (min n 8) w → Put out at (bytes_of (min n 8) w) (put_mid at (at + k - at) out piece) (at + k)
in_room out at n w {k} {piece} h b e =
    let long : k ≡ length (bytes_of (min n 8) w) = b ∙ sym (length_bytes (min n 8) w) in
    let put = at_once out at (bytes_of (min n 8) w) (omega arith) in
    rw (e, over out at k (bytes_of (min n 8) w) h long, long) put

pub returns-then-page-k : goal.returns-then-page-k
returns-then-page-k c = rw c.put.ensures (ap (written c.args.page.now) (asked c.args.k c.args.w _ c.min-k.ensures c.to_le_bytes.ensures))

pub returns : goal.returns
returns c = fields (in_room c.args.page.now.bytes.now c.args.page.now.at c.args.k c.args.w (omega arith) c.min-k.ensures (c.copy_from_slice.ensures.after ∙ asked c.args.k c.args.w _ c.min-k.ensures c.to_le_bytes-2.ensures))
