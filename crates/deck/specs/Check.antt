-- What the check of a deck comes to, and the verdict list afterwards: RULES, The deck. Definitions only.
use Rattle.std.specs.Prelude.{ℕ, List, ◌++◌, map, leb, length, drop}
use Rattle.rows.specs.Rows.{Checked, pass, refuse, must, onward}
use Rattle.version.specs.declared.Version.{Version}
use Rattle.card.specs.Fields.{Card}
use Rattle.contents.specs.Contents.{entry_at, count_of, cards_from, deck_in}
use Rattle.ruling.specs.Said.{Said, number_in}
use Rattle.verdict.specs.Verdict.{verdict_of}
use Rattle.deck.specs.declared.Totals.{Totals}
use Rattle.deck.specs.Tally.{Residuals, tally_of}

-- a verdict for each card, in deck order
abbrev pub verdicts_of : Version → List Card → List Said
verdicts_of v cards = map (verdict_of v) cards

-- their numbers, as the verdict list has them
abbrev pub numbers_of : Version → List Card → List ℕ
numbers_of v cards = map number_in (verdicts_of v cards)

-- the verdicts for `count` entries, from the first one on
abbrev pub judged_from : Version → List ℕ → (count : ℕ) → Checked (List Said)
judged_from v deck count = onward (cards_from v deck count 0 (entry_at count)) (λ cards. pass (verdicts_of v cards))

-- the refusals of the contents, then 39, where the list has fewer places than there are cards; a deck that passes is accepted
unfoldable pub judged_of : List ℕ → (room : ℕ) → Checked (List Said)
judged_of deck room =
    onward (deck_in deck) (λ d.
    must (leb (count_of deck) room) 39
    (pass (verdicts_of d.version d.cards)))

-- the tally of the verdicts, or the refusal
abbrev pub tallied : Checked (List Said) → Checked (Totals × Residuals)
tallied m = onward m (λ verdicts. pass (tally_of verdicts))

unfoldable pub answer_of : List ℕ → (room : ℕ) → Checked (Totals × Residuals)
answer_of deck room = tallied (judged_of deck room)

-- The deck 9: the verdicts go into the first places, and the places behind keep their values. A refused deck leaves the list as it was lent.
abbrev pub written : Checked (List Said) → List ℕ → List ℕ
written (pass verdicts) list = map number_in verdicts ++ drop (length verdicts) list
written (refuse k) list = list

unfoldable pub list_after : List ℕ → List ℕ → List ℕ
list_after deck list = written (judged_of deck (length list)) list
