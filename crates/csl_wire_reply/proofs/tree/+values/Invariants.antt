use Rattle.std.proofs.Common.{◌≡◌, map, take}
use Rattle.serde_json.specs.View.{view}
use Rattle.csl_wire_reply.specs.Tree.{child_data}
use Rattle.csl_wire_reply.proofs.tree.+values.Given as goal

-- the items are those of the children before this one
abbrev pub invariant-tree_value-loop-child : goal.invariant-tree_value-loop-child
invariant-tree_value-loop-child l = map view l.items.items ≡ map child_data (take l.child-index l.child-items)
