use Rattle.std.specs.Fn.{CalledAt}
use Rattle.csl_tree.proofs.KeptLinks.{Visited}
use Rattle.csl_tree.proofs.elem.+links.Given as goal

abbrev pub decreases-ElemChild::keep_links_by : goal.decreases-ElemChild::keep_links_by
decreases-ElemChild::keep_links_by g l = goal.size-ElemChild::keep_links_by g l

abbrev pub decreases-ElemChildren::keep_links_by : goal.decreases-ElemChildren::keep_links_by
decreases-ElemChildren::keep_links_by g l = goal.size-ElemChildren::keep_links_by g l

abbrev pub invariant-ElemChildren::keep_links_by-loop-child : goal.invariant-ElemChildren::keep_links_by-loop-child
invariant-ElemChildren::keep_links_by-loop-child g l =
    goal.F-IsAlwaysCallable g l.is_allowed
    × Visited (CalledAt g.F.FnMut) l.initial.is_allowed l.initial.child-items l.child-items l.child-index l.is_allowed
    × goal.unvisited-ElemChildren::keep_links_by-loop-child g l
