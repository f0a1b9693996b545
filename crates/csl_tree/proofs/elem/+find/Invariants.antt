use Rattle.std.proofs.Common.{◌≡◌, map, drop}
use Rattle.csl_tree.specs.FindNames.{names_find, first_found, find_of_child}
use Rattle.csl_tree.proofs.elem.+find.Given as goal

abbrev pub invariant-ElemChildren::names_at-loop-i : goal.invariant-ElemChildren::names_at-loop-i
invariant-ElemChildren::names_at-loop-i l = names_find l.self ≡ first_found l.i (map find_of_child (drop l.i l.self.0.items))
