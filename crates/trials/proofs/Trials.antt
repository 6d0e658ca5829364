-- The table of trials holds: antt computes each line from the definitions.
use mathlib.Core.Path.{refl}
use lib.Ieee.{round, add, sub, mul, div, neg, lt, le, eq, ne, of_int, of_bits, to_bits}
use Rattle.exact.specs.Numbers.{magnitude, is_near, steps}
use Rattle.root.specs.Whole.{whole_root}
use Rattle.root.specs.Root.{radicand, nearest_root, root_of}
use Rattle.search.specs.Search.{first_guess, narrowed_by, next_guess, hunt, search_of}
use Rattle.rows.specs.Rows.{must, onward}
use Rattle.universal.specs.Series.{coefficients, worked_from, worked, series_of}
use Rattle.universal.specs.Functions.{functions_at}
use Rattle.conic.specs.TimeAndRatio.{time_at}
use Rattle.conic.specs.Unfolding.{unfolded, arrival_of, arrival_at}
use Rattle.units.specs.Units.{finite_from, radius_of, unit_of, rooted}
use Rattle.entry.specs.Entry.{inputs_tested, tested_by, scaled_by, scaled_of, far_end_of, bracketed_by, start_by, entry_of}
use Rattle.kepler.specs.Kepler.{kepler_of}
use Rattle.spelled.specs.Spelled.{bytes_of}
use Rattle.words.specs.Words.{value, value_at, words_bytes}
use Rattle.text.specs.Text.{decimal, hex}
use Rattle.version.specs.Version.{version_of, version_number, tag_size}
use Rattle.tag.specs.Tag.{epoch_of}
use Rattle.card.specs.Fields.{kind_of, kind_number, answer_size, answer_at, tag_at, tag_of, problem_of}
use Rattle.contents.specs.Contents.{entry_in, cards_from, deck_in}
use Rattle.layout.specs.Layout.{entries_from, bodies_of, deck_of}
use Rattle.compared.specs.Compared.{timed_by, found_by, answered_by}
use Rattle.verdict.specs.Verdict.{at_x, solved_card, refused_card, verdict_on}
use Rattle.deck.specs.Tally.{counted_all, residuals_of}
use Rattle.listing.specs.Listing.{card_lines, listing_of}
use Rattle.trials.specs.Table.{AllHold, table}

pub all_hold : AllHold table
unfolding round add sub mul div neg lt le eq ne of_int of_bits to_bits magnitude is_near steps whole_root radicand nearest_root root_of first_guess narrowed_by next_guess hunt search_of must onward coefficients worked_from worked series_of functions_at time_at unfolded arrival_of arrival_at finite_from inputs_tested rooted radius_of unit_of tested_by scaled_by scaled_of far_end_of bracketed_by start_by entry_of kepler_of value value_at bytes_of words_bytes version_of version_number tag_size epoch_of kind_of kind_number answer_size answer_at tag_at tag_of problem_of timed_by found_by answered_by at_x solved_card refused_card verdict_on entry_in cards_from deck_in entries_from bodies_of deck_of counted_all residuals_of decimal hex card_lines listing_of
all_hold = (refl, (refl, (refl, (refl, (refl, (refl, (refl, (refl, (refl, (refl, (refl, (refl, (refl, (refl, (refl, (refl, (refl, (refl, (refl, tt)))))))))))))))))))
