use Rattle.std.proofs.Common.{◌≡◌, drop}
use Rattle.std.specs.List.{flat_map}
use Rattle.csl_tree.specs.Tokens.{child_tokens, has_content}
use Rattle.csl_tree.proofs.elem.+content.Given as goal

-- any child has content exactly if one from this one on has
abbrev pub invariant-ElemChildren::has_content-loop-child : goal.invariant-ElemChildren::has_content-loop-child
invariant-ElemChildren::has_content-loop-child l = has_content (flat_map child_tokens (drop l.child-index l.child-items)) ≡ has_content (flat_map child_tokens l.child-items)
