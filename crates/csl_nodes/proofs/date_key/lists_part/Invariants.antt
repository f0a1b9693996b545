use Rattle.std.proofs.Common.{◌≡◌, map, drop}
use Rattle.csl_elements.specs.View.{view_date_part}
use Rattle.csl_nodes.specs.DateKey.{lists_part}
use Rattle.csl_nodes.proofs.date_key.lists_part.Given as goal

-- the result for the remaining parts is that for all
abbrev pub invariant-loop-part : goal.invariant-loop-part
invariant-loop-part l = lists_part (map view_date_part (drop l.part-index l.node.date_part.items)) l.name ≡ lists_part (map view_date_part l.node.date_part.items) l.name
