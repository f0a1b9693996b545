use Rattle.std.proofs.Common.{◌≡◌, map, take}
use Rattle.csl_elements.specs.View.{view_date_part}
use Rattle.csl_languages.specs.Contents.{date_part_of_row}
use Rattle.csl_languages.proofs.locale.date.Given as goal

abbrev pub invariant-loop-row : goal.invariant-loop-row
invariant-loop-row l = map view_date_part l.parts.items ≡ map date_part_of_row (take l.row-index l.rows)
