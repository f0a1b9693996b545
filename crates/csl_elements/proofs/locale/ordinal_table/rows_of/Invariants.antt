use Rattle.std.proofs.Common.{map, drop}
use Rattle.csl_elements.specs.Locale.{ordinal_view}
use Rattle.csl_elements.proofs.OrdinalRows.{AreRowsSoFar}
use Rattle.csl_elements.proofs.locale.ordinal_table.rows_of.Given as goal

abbrev pub invariant-loop-ordinal : goal.invariant-loop-ordinal
invariant-loop-ordinal l = AreRowsSoFar l.rows.items (map ordinal_view (drop l.ordinal-index l.ordinals)) (map ordinal_view l.ordinals)
