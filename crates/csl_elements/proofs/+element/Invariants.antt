-- Each turn of the loop takes one node, branch or child of names from the lists and adds only what is
-- inside it.
use Rattle.std.proofs.Common.{◌+◌, ◌<◌, max}
use Rattle.csl_elements.specs.Element.{node_depth, node_depths, node_counts, branch_depths, branch_counts, child_depths, child_counts}
use Rattle.csl_elements.proofs.+element.Given as goal

abbrev pub decreases-element::LayoutRenderingElement::drop : goal.decreases-element::LayoutRenderingElement::drop
decreases-element::LayoutRenderingElement::drop l = goal.size-element::LayoutRenderingElement::drop l

abbrev pub invariant-element::LayoutRenderingElement::drop-nested : goal.invariant-element::LayoutRenderingElement::drop-nested
invariant-element::LayoutRenderingElement::drop-nested l = max (node_depths l.nodes.items) (max (branch_depths l.branches.items) (child_depths l.children.items)) < node_depth l.fn.self

abbrev pub decreases-element::LayoutRenderingElement::drop-nested : goal.decreases-element::LayoutRenderingElement::drop-nested
decreases-element::LayoutRenderingElement::drop-nested l = node_counts l.nodes.items + branch_counts l.branches.items + child_counts l.children.items
