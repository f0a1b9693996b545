use Rattle.std.proofs.Common.{◌≡◌, map, drop}
use Rattle.csl_elements.specs.Locale.{ordinal_view}
use Rattle.csl_elements.specs.OrdinalTable as spec
use Rattle.csl_elements.proofs.locale.ordinal_table.has_twin.Given as goal

abbrev pub invariant-loop-other : goal.invariant-loop-other
invariant-loop-other l = spec.has_twin (map ordinal_view (drop l.other-index l.row)) (ordinal_view l.ordinal) ≡ spec.has_twin (map ordinal_view l.row) (ordinal_view l.ordinal)
