use Rattle.csl_elements.specs.NamedSet.{named_set}
use Rattle.csl_elements.specs.View.{view_nodes}
use Rattle.csl_style.specs.NamedWalk.{part_itself, part_in}
use Rattle.csl_style.proofs.Walks.{IsAt, cost_left}
use Rattle.csl_style.proofs.named.named_part.Given as goal

abbrev pub invariant-loop-reached : goal.invariant-loop-reached
invariant-loop-reached l = IsAt (part_itself l.part) (part_in l.part) l.style.macros (view_nodes l.layout.elements.items) (named_set l.named) l.reached

abbrev pub decreases-loop-reached : goal.decreases-loop-reached
decreases-loop-reached l = cost_left l.reached
