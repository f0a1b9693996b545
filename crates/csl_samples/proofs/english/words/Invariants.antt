use Rattle.std.proofs.Common.{◌≡◌, map, take}
use Rattle.csl_elements.specs.Locale.{term_view}
use Rattle.csl_samples.specs.English.{word_of_row}
use Rattle.csl_samples.proofs.english.words.Given as goal

abbrev pub invariant-loop-row : goal.invariant-loop-row
invariant-loop-row l = map term_view l.terms.items ≡ map word_of_row (take l.row-index l.row-items)
