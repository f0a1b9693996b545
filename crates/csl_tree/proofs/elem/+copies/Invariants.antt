use Rattle.std.proofs.Common.{◌≡◌, take}
use Rattle.std.specs.List.{flat_map}
use Rattle.csl_tree.specs.Tokens.{child_tokens}
use Rattle.csl_tree.proofs.elem.+copies.Given as goal

-- the copies so far are equal to the children before this one
abbrev pub invariant-ElemChildren::clone-loop-child : goal.invariant-ElemChildren::clone-loop-child
invariant-ElemChildren::clone-loop-child l = flat_map child_tokens l.copies.items ≡ flat_map child_tokens (take l.child-index l.child-items)
