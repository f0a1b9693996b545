use Rattle.std.proofs.Common.{◌≡◌, map, drop}
use Rattle.csl_elements.specs.View.{view_child, first_et_al}
use Rattle.csl_elements.proofs.names_parts.et_al_among.Given as goal

abbrev pub invariant-loop-child : goal.invariant-loop-child
invariant-loop-child l = first_et_al (map view_child (drop l.child-index l.children)) ≡ first_et_al (map view_child l.children)
