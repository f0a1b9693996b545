use Rattle.std.proofs.Common.{◌≡◌, Bool, drop}
use Rattle.std.specs.List.{find}
use Rattle.std.specs.Prelude.{flat_map}
use Rattle.csl_tree.specs.declared.elem.Elem.{Elem}
use Rattle.csl_tree.specs.Search.{preorder, child_preorder, AnswersBy}
use Rattle.csl_tree.proofs.elem.ElemChildren.+find_elem_by.Given as goal

-- the first element that passes is the first in the children from this one on
abbrev pub invariant-loop-child : goal.invariant-loop-child
invariant-loop-child g l = (p : Elem → Bool) → AnswersBy (goal.F-post g l.f) p → find p (preorder l.self) ≡ find p (flat_map child_preorder (drop l.child-index l.child-items))
