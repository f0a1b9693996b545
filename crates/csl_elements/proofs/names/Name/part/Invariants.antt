use Rattle.std.proofs.Common.{◌≡◌, map, drop, find}
use Rattle.csl_elements.specs.Names.{view_part}
use Rattle.csl_elements.specs.NamesParts.{is_part}
use Rattle.csl_elements.proofs.names.Name.part.Given as goal

abbrev pub invariant-loop-part : goal.invariant-loop-part
invariant-loop-part l = find (is_part l.name) (map view_part (drop l.part-index l.part-items)) ≡ find (is_part l.name) (map view_part l.part-items)
