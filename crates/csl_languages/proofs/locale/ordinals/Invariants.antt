use Rattle.std.proofs.Common.{◌≡◌, map, take}
use Rattle.csl_elements.specs.Locale.{ordinal_view}
use Rattle.csl_languages.specs.Contents.{ordinal_of_row}
use Rattle.csl_languages.proofs.locale.ordinals.Given as goal

abbrev pub invariant-loop-row : goal.invariant-loop-row
invariant-loop-row l = map ordinal_view l.ordinals.items ≡ map ordinal_of_row (take l.row-index l.rows)
