use Rattle.std.proofs.Common.{◌≡◌, drop}
use Rattle.csl_tree.specs.Tree.{row}
use Rattle.csl_tree.specs.Simplify.{simplify_once, simplify_once_after}
use Rattle.csl_tree.proofs.+rounds.Given as goal

-- a round over the remaining children, continued from those so far, gives the round over all
abbrev pub invariant-simplify::simplify_children-loop-child : goal.invariant-simplify::simplify_children-loop-child
invariant-simplify::simplify_children-loop-child l = simplify_once_after (row l.simplified.items) (row (drop l.child-index l.child-items)) ≡ simplify_once (row l.child-items)
