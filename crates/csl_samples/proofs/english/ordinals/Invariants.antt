use Rattle.std.proofs.Common.{◌≡◌, map, take}
use Rattle.csl_elements.specs.Locale.{ordinal_view}
use Rattle.csl_samples.specs.English.{ordinal_of_row}
use Rattle.csl_samples.proofs.english.ordinals.Given as goal

abbrev pub invariant-loop-row : goal.invariant-loop-row
invariant-loop-row l = map ordinal_view l.ordinals.items ≡ map ordinal_of_row (take l.row-index l.row-items)
