use Rattle.std.proofs.Common.{◌≡◌, ◌-◌, ◌^◌, length, min, take}
use Rattle.std.specs.List.{flat_map}
use Rattle.csl_tree.specs.Tokens.{child_tokens, leaf_text}
use Rattle.csl_tree.proofs.elem.+len.Given as goal

-- the length of the children before this one, at most `usize::MAX`
abbrev pub invariant-ElemChildren::str_len-loop-child : goal.invariant-ElemChildren::str_len-loop-child
invariant-ElemChildren::str_len-loop-child l = l.len ≡ min (length (flat_map (λ k. leaf_text (child_tokens k)) (take l.child-index l.child-items))) (2 ^ 64 - 1)
