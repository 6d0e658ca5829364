-- What each loop makes of the cards that were met: the sum of their fields' bytes, the list of their kinds, and their fields one behind the
-- other. One card more adds its own, and after the last entry it is that of all cards.
use mathlib.Core.Path.{◌≡◌, refl, sym, ap, subst, ◌∙◌}
use mathlib.Core.List.{List, [], ◌∷◌, ◌++◌}
use Prim.Native.Nat.{ℕ, ◌+◌, ◌*◌, ◌≤◌, ◌<◌}
use native.Mathlib.Omega.{arith}
use lib.ListN.{length, take, drop, set, length-append}
use Rattle.pieces.specs.Pieces.{Put}
use Rattle.pieces.specs.declared.Page.{Page}
use Rattle.pieces.specs.Page.{written}
use Rattle.pieces.proofs.Puts.{puts, none, renamed, at_once, as_long}
use Rattle.pieces.proofs.Pages.{two, nothing}
use Rattle.rows.specs.Rows.{pass}
use Rattle.version.specs.declared.Version.{Version}
use Rattle.card.specs.declared.Kind.{Kind}
use Rattle.card.specs.Fields.{Card, kind_number, size_of, packed_size, largest_fields}
use Rattle.card.specs.Made.{fields_in}
use Rattle.card.proofs.Packed.{length_fields, packed_most}
use Rattle.contents.specs.Contents.{Deck, entry_at, kind_at, deck_in, counted_in}
use Rattle.contents.proofs.Cards.{card_at}
use Rattle.layout.specs.Packed.{kinds_of, fields_of}
use Rattle.layout.proofs.Packed.{kinds_behind, fields_behind}
use Rattle.apart.specs.Apart.{kinds_taken, fields_taken}
use Rattle.contents.proofs.Meeting.{Meeting, set_out, whole_body, walk_on, all_met}

-- ---- the sum of the fields' bytes

pub record Summing (v : Version) (deck : List ℕ) (count i sum : ℕ) : Type 0 where
  pub met : List Card
  pub at : ℕ
  pub walk : Meeting v deck count i at met
  pub sum_is : sum ≡ length (fields_of v met)
  pub most : sum ≤ largest_fields * i

pub none_summed : (v : Version) (deck : List ℕ) (count : ℕ) → counted_in deck ≡ pass (v, count) → Summing v deck count 0 0
unfolding fields_of
none_summed v deck count h = record { met = []; at = entry_at count; walk = set_out v deck count h; sum_is = refl; most = omega arith }

module _ {v : Version} {deck : List ℕ} {count i sum : ℕ} (s : Summing v deck count i sum) where
  pub sum_on : (kind : Kind) → i < count → kind_at deck i ≡ pass kind → Summing v deck count (i + 1) (sum + packed_size v kind)
  sum_on kind h e =
      let card = card_at v deck kind s.at in
      let here = fields_in v kind card.body in
      let long : length here ≡ packed_size v kind = length_fields v kind card.body (whole_body s.walk kind h e) in
      let behind : length (fields_of v (s.met ++ (card ∷ []))) ≡ length (fields_of v s.met) + length here = ap length (fields_behind v s.met card) ∙ length-append (fields_of v s.met) here in
      record {
        met = s.met ++ (card ∷ []);
        at = s.at + size_of v kind;
        walk = walk_on s.walk kind h e;
        sum_is = omega (arith, behind, long, s.sum_is);
        most = omega (arith, s.most, packed_most v kind);
      }

  pub all_summed : count ≤ i → (d : Deck) → deck_in deck ≡ pass d → sum ≡ length (fields_taken d)
  all_summed h d e = s.sum_is ∙ ap (λ (l : Deck). length (fields_taken l)) (all_met s.walk h d e)

-- ---- the list of the kinds

pub record Listing (v : Version) (deck : List ℕ) (count : ℕ) (before list : List ℕ) (i : ℕ) : Type 0 where
  pub met : List Card
  pub at : ℕ
  pub walk : Meeting v deck count i at met
  pub within : i ≤ count
  pub room : count ≤ length before
  pub listed : Put before 0 (kinds_of met) list i

pub none_listed : (v : Version) (deck : List ℕ) (count : ℕ) (list : List ℕ) → counted_in deck ≡ pass (v, count) → count ≤ length list → Listing v deck count list list 0
none_listed v deck count list h room = record { met = []; at = entry_at count; walk = set_out v deck count h; within = omega arith; room = room; listed = none (omega arith) }

module _ {v : Version} {deck : List ℕ} {count : ℕ} {before list : List ℕ} {i : ℕ} (s : Listing v deck count before list i) where
  pub place : i < count → i < length list
  place h = omega (arith, as_long s.listed, s.room)

  pub list_on : (kind : Kind) → i < count → kind_at deck i ≡ pass kind → Listing v deck count before (set list i (kind_number kind)) (i + 1)
  list_on kind h e =
      let card = card_at v deck kind s.at in
      let one : Put list i (kind_number kind ∷ []) (set list i (kind_number kind)) (i + 1) = at_once list i (kind_number kind ∷ []) (omega (arith, place h)) in
      record {
        met = s.met ++ (card ∷ []);
        at = s.at + size_of v kind;
        walk = walk_on s.walk kind h e;
        within = omega arith;
        room = s.room;
        listed = renamed (sym (kinds_behind s.met card)) (puts s.listed one);
      }

  pub all_listed : count ≤ i → (d : Deck) → deck_in deck ≡ pass d → Put before 0 (kinds_taken d) list count
  all_listed h d e =
      let ended : i ≡ count = omega (arith, s.within) in
      subst (Put before 0 (kinds_taken d) list) ended (renamed (ap kinds_taken (all_met s.walk h d e)) s.listed)

-- ---- the fields

pub record Putting (v : Version) (deck : List ℕ) (count : ℕ) (start page : Page) (at i : ℕ) : Type 0 where
  pub met : List Card
  pub walk : Meeting v deck count i at met
  pub put : page ≡ written start (fields_of v met)

pub none_put : (v : Version) (deck : List ℕ) (count : ℕ) (page : Page) → counted_in deck ≡ pass (v, count) → page.at ≤ length page.bytes.now → Putting v deck count page page (entry_at count) 0
unfolding fields_of
none_put v deck count page h inside = record { met = []; walk = set_out v deck count h; put = sym (nothing page inside) }

module _ {v : Version} {deck : List ℕ} {count : ℕ} {start page : Page} {at i : ℕ} (s : Putting v deck count start page at i) where
  pub put_on : (kind : Kind) {after : Page} → i < count → kind_at deck i ≡ pass kind → after ≡ written page (fields_in v kind (take (size_of v kind) (drop at deck))) → Putting v deck count start after (at + size_of v kind) (i + 1)
  put_on kind h e p =
      let card = card_at v deck kind at in
      record { met = s.met ++ (card ∷ []); walk = walk_on s.walk kind h e; put = rw (p, s.put, two) (ap (written start) (sym (fields_behind v s.met card))) }

  pub all_put : count ≤ i → (d : Deck) → deck_in deck ≡ pass d → page ≡ written start (fields_taken d)
  all_put h d e = s.put ∙ ap (λ (l : Deck). written start (fields_taken l)) (all_met s.walk h d e)
