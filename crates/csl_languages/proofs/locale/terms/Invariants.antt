use Rattle.std.proofs.Common.{◌≡◌, map, take}
use Rattle.csl_elements.specs.Locale.{term_view}
use Rattle.csl_languages.specs.Contents.{term_of_row}
use Rattle.csl_languages.proofs.locale.terms.Given as goal

abbrev pub invariant-loop-row : goal.invariant-loop-row
invariant-loop-row l = map term_view l.terms.items ≡ map term_of_row (take l.row-index l.rows)
