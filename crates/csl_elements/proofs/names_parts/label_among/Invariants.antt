use Rattle.std.proofs.Common.{◌≡◌, false, map, drop}
use Rattle.csl_elements.specs.View.{view_child, first_label}
use Rattle.csl_elements.proofs.names_parts.label_among.Given as goal

abbrev pub invariant-loop-child : goal.invariant-loop-child
invariant-loop-child l = first_label l.is_after (map view_child (drop l.child-index l.children)) ≡ first_label false (map view_child l.children)
