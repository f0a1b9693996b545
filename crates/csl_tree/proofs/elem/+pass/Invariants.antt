use Rattle.std.proofs.Common.{◌≡◌, drop}
use Rattle.csl_tree.specs.Tree.{row}
use Rattle.csl_tree.specs.Simplify.{simplify_fully_after}
use Rattle.csl_tree.proofs.elem.+pass.Given as goal

-- a pass over the remaining children, continued from those so far, gives the pass over all
abbrev pub invariant-ElemChildren::simplify_fully_into-loop-child : goal.invariant-ElemChildren::simplify_fully_into-loop-child
invariant-ElemChildren::simplify_fully_into-loop-child l = simplify_fully_after (row l.simplified.items) (row (drop l.child-index l.child-items)) ≡ simplify_fully_after (row l.fn.simplified.items) (row l.child-items)
