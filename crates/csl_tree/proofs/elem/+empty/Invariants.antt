use Rattle.std.proofs.Common.{◌≡◌, drop}
use Rattle.std.specs.List.{flat_map}
use Rattle.csl_tree.specs.Tokens.{child_tokens, is_empty}
use Rattle.csl_tree.proofs.elem.+empty.Given as goal

-- all children are empty exactly if those from this one on are
abbrev pub invariant-ElemChildren::is_empty-loop-child : goal.invariant-ElemChildren::is_empty-loop-child
invariant-ElemChildren::is_empty-loop-child l = is_empty (flat_map child_tokens (drop l.child-index l.child-items)) ≡ is_empty (flat_map child_tokens l.child-items)
