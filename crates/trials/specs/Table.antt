-- The trials that RULES, Trials, marks P, in its order: one table, a line a trial. Definitions only.
use Rattle.std.specs.Prelude.{◌≡◌, List, [], ◌∷◌, ℕ, length, take, Float}
use Rattle.std.specs.Float.{nan}
use Rattle.exact.specs.Numbers.{number_of, nought, one}
use Rattle.root.specs.Said as root
use Rattle.root.specs.Root.{root_of}
use Rattle.search.specs.declared.Bracket.{Bracket}
use Rattle.vectors.specs.declared.Vector.{Vector}
use Rattle.conic.specs.declared.Problem.{Problem}
use Rattle.conic.specs.declared.Scaled.{Scaled}
use Rattle.rows.specs.Rows.{Checked, pass, onward}
use Rattle.search.specs.Answers.{solved, refused, refused_with_bracket}
use Rattle.conic.specs.Said.{Said}
use Rattle.universal.specs.Series.{four}
use Rattle.universal.specs.Functions.{functions_at, ratio_of}
use Rattle.conic.specs.Unfolding.{unfolded}
use Rattle.entry.specs.Entry.{entry_of}
use Rattle.kepler.specs.Kepler.{kepler_of}
use Rattle.text.specs.Text.{text}
use Rattle.version.specs.declared.Version.{Version}
use Rattle.version.specs.declared.Version.TheVariants as version
use Rattle.card.specs.declared.Kind.TheVariants as kind
use Rattle.card.specs.Fields.{Card}
use Rattle.card.specs.Made.{problem_bytes, solved_body, refused_body}
use Rattle.contents.specs.Contents.{Deck}
use Rattle.layout.specs.Layout.{deck_of}
use Rattle.listing.specs.Listing.{listing_of}

-- a trial: what is tried, and what it has to give
pub data Trial : Type 0 where
  root_gives : Float → root.Said → Trial
  -- alpha and the far end X, forwards
  starts_at : Problem → (alpha X : Float) → Trial
  -- at x: U1, U2, R and the position
  unfolds_at : Problem → (x : Float) → (u1 u2 ratio : Float) → Vector → Trial
  kepler_gives : Problem → Said → Trial
  -- the first bytes of a deck
  laid_out : Deck → (front : List ℕ) → Trial
  -- a deck's bytes, and its whole listing
  listing_gives : (deck listing : List ℕ) → Trial

abbrev alpha_and_far_end : Scaled × Bracket → Float × Float
alpha_and_far_end e = (e.0.alpha, e.1.hi.x)

abbrev unfolded_at : Float → Scaled × Bracket → Checked (Float × Float × Float × Vector)
unfolded_at x e =
    let o = e.0 in
    onward (functions_at x o.alpha) (λ u.
    let ratio = ratio_of o.s u in
    pass (u.u1, u.u2, ratio, (unfolded o u.u1 u.u2 ratio).r))

abbrev pub Holds : Trial → Type 0
Holds (root_gives x s) = root_of x ≡ s
Holds (starts_at p alpha X) = onward (entry_of p) (λ e. pass (alpha_and_far_end e)) ≡ pass (alpha, X)
Holds (unfolds_at p x u1 u2 ratio r) = onward (entry_of p) (unfolded_at x) ≡ pass (u1, u2, ratio, r)
Holds (kepler_gives p s) = kepler_of p ≡ s
Holds (laid_out d front) = take (length front) (deck_of d) ≡ front
Holds (listing_gives deck listing) = listing_of deck ≡ listing

abbrev pub AllHold : List Trial → Type 0
AllHold [] = Unit {0}
AllHold (t ∷ ts) = Holds t × AllHold ts

-- mu 1 and r (1,0,0), where nothing else is said
abbrev vector : (x y z : Float) → Vector
vector x y z = record { x = x; y = y; z = z }

abbrev given : (mu : Float) (v : Vector) (dt : Float) (limit : ℕ) → Problem
given mu v dt limit = record { mu = mu; r = vector one nought nought; v = v; dt = dt; limit = limit }

abbrev problem : (v : Vector) (dt : Float) (limit : ℕ) → Problem
problem v dt limit = given one v dt limit

-- the state that is given, after no time
abbrev the_state_given : (v : Vector) → Said
the_state_given v = solved nought 1 (record { r = vector one nought nought; v = v })

abbrev diagonal : Vector
diagonal = vector one one nought

abbrev across : Float → Vector
across y = vector nought y nought

-- deck A, as under The check program's listing: three cards, the first solved, the second refused with 7, the third the first with another position;
-- each with the same bytes of object and epoch, where there are any
abbrev solved_at : (tag : List ℕ) (position : Vector) → Card
solved_at tag position = record {
  kind = kind.Solved;
  body = solved_body (problem_bytes (problem (across one) nought 20)) tag nought (record { r = position; v = across one });
}

abbrev refused_with : (tag : List ℕ) → ℕ → Card
refused_with tag k = record { kind = kind.Refused; body = refused_body (problem_bytes (problem (vector one nought nought) nought 20)) tag k }

abbrev deck_with : Version → (tag : List ℕ) → Deck
deck_with v tag = record {
  version = v;
  cards = solved_at tag (vector one nought nought) ∷ refused_with tag 7 ∷ solved_at tag (vector (number_of 0x4000_0000_0000_0000) nought nought) ∷ [];
}

abbrev deck_a : Deck
deck_a = deck_with version.One []

-- the same cards in version 2, with the largest object and the lowest epoch on each
abbrev deck_a_tagged : Deck
deck_a_tagged = deck_with version.Two (255 ∷ 255 ∷ 255 ∷ 255 ∷ 0 ∷ 0 ∷ 0 ∷ 0 ∷ 0 ∷ 0 ∷ 0 ∷ 128 ∷ [])

-- its version and count, and its three entries, byte by byte
abbrev front_of_a : List ℕ
front_of_a =
    1 ∷ 0 ∷ 0 ∷ 0 ∷ 3 ∷ 0 ∷ 0 ∷ 0
    ∷ 1 ∷ 0 ∷ 0 ∷ 0 ∷ 44 ∷ 0 ∷ 0 ∷ 0 ∷ 128 ∷ 0 ∷ 0 ∷ 0
    ∷ 2 ∷ 0 ∷ 0 ∷ 0 ∷ 172 ∷ 0 ∷ 0 ∷ 0 ∷ 80 ∷ 0 ∷ 0 ∷ 0
    ∷ 1 ∷ 0 ∷ 0 ∷ 0 ∷ 252 ∷ 0 ∷ 0 ∷ 0 ∷ 128 ∷ 0 ∷ 0 ∷ 0
    ∷ []

-- and in version 2
abbrev front_of_a_tagged : List ℕ
front_of_a_tagged =
    2 ∷ 0 ∷ 0 ∷ 0 ∷ 3 ∷ 0 ∷ 0 ∷ 0
    ∷ 1 ∷ 0 ∷ 0 ∷ 0 ∷ 44 ∷ 0 ∷ 0 ∷ 0 ∷ 140 ∷ 0 ∷ 0 ∷ 0
    ∷ 2 ∷ 0 ∷ 0 ∷ 0 ∷ 184 ∷ 0 ∷ 0 ∷ 0 ∷ 92 ∷ 0 ∷ 0 ∷ 0
    ∷ 1 ∷ 0 ∷ 0 ∷ 0 ∷ 20 ∷ 1 ∷ 0 ∷ 0 ∷ 140 ∷ 0 ∷ 0 ∷ 0
    ∷ []

abbrev pub table : List Trial
table =
    -- the root of 4, 0.25, 2^-1074, -0 and -1
    root_gives (number_of 0x4010_0000_0000_0000) (root.root (number_of 0x4000_0000_0000_0000))
    ∷ root_gives (number_of 0x3fd0_0000_0000_0000) (root.root (number_of 0x3fe0_0000_0000_0000))
    ∷ root_gives (number_of 0x0000_0000_0000_0001) (root.root (number_of 0x1e60_0000_0000_0000))
    ∷ root_gives (number_of 0x8000_0000_0000_0000) (root.root (number_of 0x8000_0000_0000_0000))
    ∷ root_gives (number_of 0xbff0_0000_0000_0000) (root.refused 13)
    -- v (1,1,0): alpha and X; U1, U2, R and the position at x = 4
    ∷ starts_at (problem diagonal nought 20) nought (number_of 0x404f_c000_0000_0000)
    ∷ unfolds_at (problem diagonal nought 20) four four (number_of 0x4020_0000_0000_0000) (number_of 0x402a_0000_0000_0000) (vector (number_of 0x4014_0000_0000_0000) (number_of 0x4028_0000_0000_0000) nought)
    -- v (0,1,0), dt 0
    ∷ kepler_gives (problem (across one) nought 20) (the_state_given (across one))
    -- a straight line; across by 2^-10, and by 2^-11
    ∷ kepler_gives (problem (vector one nought nought) nought 20) (refused 7 0)
    ∷ kepler_gives (problem (across (number_of 0x3f50_0000_0000_0000)) nought 20) (the_state_given (across (number_of 0x3f50_0000_0000_0000)))
    ∷ kepler_gives (problem (across (number_of 0x3f40_0000_0000_0000)) nought 20) (refused 7 0)
    -- limit 0 and 101; mu -1 and v (0,NaN,0)
    ∷ kepler_gives (problem (across one) nought 0) (refused 3 0)
    ∷ kepler_gives (problem (across one) nought 101) (refused 3 0)
    ∷ kepler_gives (given (number_of 0xbff0_0000_0000_0000) (across nan) nought 20) (refused 106 0)
    -- v (1,1,0), dt 20, limit 1
    ∷ kepler_gives (problem diagonal (number_of 0x4034_0000_0000_0000) 1) (refused_with_bracket 10 1 nought (number_of 0x4034_0000_0000_0000))
    -- deck A
    ∷ laid_out deck_a front_of_a
    ∷ listing_gives (deck_of deck_a) (text "card 1 solved - - 0\ncard 2 refused - - 0\ncard 3 solved - - 22\nsolved 1 refused 1 rejected 1\nmean 0000000000000000\nworst 0000000000000000\n")
    -- and in version 2
    ∷ laid_out deck_a_tagged front_of_a_tagged
    ∷ listing_gives (deck_of deck_a_tagged) (text "card 1 solved 4294967295 -9223372036854775808 0\ncard 2 refused 4294967295 -9223372036854775808 0\ncard 3 solved 4294967295 -9223372036854775808 22\nsolved 1 refused 1 rejected 1\nmean 0000000000000000\nworst 0000000000000000\n")
    ∷ []
