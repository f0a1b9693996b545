use Rattle.std.proofs.Common.{◌≡◌, map, drop}
use Rattle.csl_elements.specs.Names.{first_of}
use Rattle.csl_elements.specs.View.{view_child, name_children}
use Rattle.csl_elements.proofs.names_parts.name_among.Given as goal

abbrev pub invariant-loop-child : goal.invariant-loop-child
invariant-loop-child l = first_of (name_children (map view_child (drop l.child-index l.children))) ≡ first_of (name_children (map view_child l.children))
