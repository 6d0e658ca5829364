-- A page with room for any deck, in which cards were written or not, has the reply in front once the answer is replied: the deck as it stands, or
-- the line of the refusal, which is short.
use mathlib.Core.Path.{◌≡◌, refl, sym}
use mathlib.Core.List.{List, ◌++◌}
use Prim.Native.Nat.{ℕ, ◌≤◌}
use native.Mathlib.Omega.{arith}
use lib.ListN.{length, drop, length-append}
use lib.Seq.{length-take-le, take-append_seam}
use Rattle.pieces.specs.Pieces.{put_in, end_in}
use Rattle.pieces.proofs.Puts.{InFront, front, inside, wrote}
use Rattle.text.proofs.Length.{length_count}
use Rattle.rows.specs.Rows.{Checked, pass, refuse, onward}
use Rattle.contents.specs.Contents.{Deck, largest_deck}
use Rattle.layout.specs.Written.{deck_for, length_for, with_deck, buffer_after}
use Rattle.layout.proofs.Writing.{has_room}
use Rattle.reply.specs.Reply.{refused_line, page_after, end_after, replied, reply_of}

line_short : (k : ℕ) → length (refused_line k) ≤ 16
line_short k = simp length-append (omega (arith, length_count k))

-- the two cases, by what became of the deck
in_front : (m : Checked (List ℕ)) (page : List ℕ) → ((deck : List ℕ) → m ≡ pass deck → length deck ≤ length page) → 16 ≤ length page
    → InFront (replied m) (page_after (onward m (λ deck. pass (length deck))) (with_deck m page)) (end_after (onward m (λ deck. pass (length deck))) (with_deck m page))
unfolding onward
in_front (pass deck) page room h =
    let rest = drop (length deck) page in
    let within : length deck ≤ length (deck ++ rest) = simp length-append (omega arith) in
    record { within = within; long = sym (length-take-le (length deck) (deck ++ rest) within); is = take-append_seam deck rest }
in_front (refuse k) page room h =
    let line = refused_line k in
    let p = wrote {before = page} {after = put_in page 0 line} {piece = line} {at = 0} {end = end_in page 0 line} (refl, refl) in
    let f = front p (omega (arith, line_short k)) in
    let within = inside p in
    record { within = within; long = sym (length-take-le (end_in page 0 line) (put_in page 0 line) within); is = f.1 }

pub reply_stands : (m : Checked Deck) (page : List ℕ) {answer : Checked ℕ} {written after : List ℕ} {end : ℕ} → largest_deck ≡ length page
    → answer ≡ length_for m (length page) → written ≡ buffer_after m page → end ≡ end_after answer written → after ≡ page_after answer written → InFront (reply_of m) after end
unfolding length_for buffer_after
reply_stands m page e a w n p = rw (n, p, a, w, e) (in_front (deck_for m (length page)) page (λ deck d. has_room m (length page) deck d) (omega (arith, e)))
