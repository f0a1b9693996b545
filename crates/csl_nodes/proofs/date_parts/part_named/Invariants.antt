use Rattle.std.proofs.Common.{◌≡◌, map, drop}
use Rattle.csl_elements.specs.View.{view_date_part}
use Rattle.csl_nodes.specs.Date.{own_part}
use Rattle.csl_nodes.proofs.date_parts.part_named.Given as goal

-- the first part of that name among the remaining ones is the first among all
abbrev pub invariant-loop-part : goal.invariant-loop-part
invariant-loop-part l = own_part (map view_date_part (drop l.part-index l.parts)) l.name ≡ own_part (map view_date_part l.parts) l.name
