use Rattle.std.proofs.Common.{ℕ, ◌+◌, ◌*◌, map, take}
use Rattle.std.specs.List.{AllZip}
use Rattle.serde_json.specs.View.{view}
use Rattle.csl_elements.specs.View.{view_branch, view_child, view_node}
use Rattle.csl_wire.specs.Nodes.{AreNodes, IsBranch, IsChild, IsNode}
use Rattle.csl_wire.proofs.nodes.+node.Given as goal

-- at most five calls lead from a list of nodes to one inside it, for which one list less is left
abbrev pub decreases-nodes : goal.decreases-nodes
decreases-nodes l = 5 * l.left

abbrev pub decreases-node : goal.decreases-node
decreases-node l = 5 * l.left + 4

abbrev pub decreases-group : goal.decreases-group
decreases-group l = 5 * l.left + 1

abbrev pub decreases-names : goal.decreases-names
decreases-names l = 5 * l.left + 3

abbrev pub decreases-children : goal.decreases-children
decreases-children l = 5 * l.left + 2

abbrev pub decreases-child : goal.decreases-child
decreases-child l = 5 * l.left + 1

abbrev pub decreases-choose : goal.decreases-choose
decreases-choose l = 5 * l.left + 3

abbrev pub decreases-branches : goal.decreases-branches
decreases-branches l = 5 * l.left + 2

abbrev pub decreases-branch : goal.decreases-branch
decreases-branch l = 5 * l.left + 1

abbrev pub decreases-nodes_if : goal.decreases-nodes_if
decreases-nodes_if l = 5 * l.left + 1

-- the nodes so far are those of the items so far
abbrev pub invariant-nodes-loop-place : goal.invariant-nodes-loop-place
invariant-nodes-loop-place l = AllZip (IsNode l.reader.marks (AreNodes l.reader.marks l.lower)) (map view (take l.place l.items)) (map view_node l.nodes.items)

abbrev pub invariant-children-loop-place : goal.invariant-children-loop-place
invariant-children-loop-place l = AllZip (IsChild l.reader.marks (AreNodes l.reader.marks l.fn.left)) (map view (take l.place l.items)) (map view_child l.children.items)

abbrev pub invariant-branches-loop-place : goal.invariant-branches-loop-place
invariant-branches-loop-place l = AllZip (IsBranch (AreNodes l.reader.marks l.fn.left)) (map view (take l.place l.items)) (map view_branch l.branches.items)
