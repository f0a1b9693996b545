use Rattle.std.proofs.Common.{◌≡◌, map, drop}
use Rattle.csl_elements.specs.NamesParts.{first_substitute}
use Rattle.csl_elements.specs.View.{view_child, substitutes}
use Rattle.csl_elements.proofs.names_parts.substitute_among.Given as goal

abbrev pub invariant-loop-child : goal.invariant-loop-child
invariant-loop-child l = first_substitute (substitutes (map view_child (drop l.child-index l.children))) ≡ first_substitute (substitutes (map view_child l.children))
