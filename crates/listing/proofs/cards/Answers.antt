-- `listing::cards` meets its contract: an accepted deck has a version, and its lines are those in it.
use mathlib.Core.Path.{◌≡◌, sym, ap, ◌∙◌}
use Rattle.pieces.specs.Page.{written}
use Rattle.rows.specs.Rows.{Checked, pass, refuse}
use Rattle.rows.proofs.Laws.{pass_once}
use Rattle.version.specs.declared.Version.{Version}
use Rattle.version.specs.Version.{version_of}
use Rattle.contents.proofs.Opened.{opened_to}
use Rattle.listing.specs.Listing.{card_lines}
use Rattle.listing.proofs.cards.Goals as goal

pub returns-in_default : goal.returns-in_default
returns-in_default c = λ d e.
    let none : ◌≡◌ {A = Checked Version} (pass d.version) (refuse 31) = sym (opened_to c.args.deck.now d e).0.version ∙ ap version_of (sym c.half.ensures) ∙ sym c.in_default.ensures in
    absurd (cc)

pub card_lines-requires : goal.card_lines-requires
card_lines-requires c = (c.requires.0, ap version_of (sym c.half.ensures) ∙ sym c.in-Some.ensures, c.requires.1)

pub returns : goal.returns
returns c = λ d e.
    let same : c.in-Some.version ≡ d.version = pass_once (c.in-Some.ensures ∙ ap version_of c.half.ensures ∙ (opened_to c.args.deck.now d e).0.version) in
    c.card_lines.ensures d e ∙ ap (λ (v : Version). written c.args.page.now (card_lines v 1 d.cards)) same
