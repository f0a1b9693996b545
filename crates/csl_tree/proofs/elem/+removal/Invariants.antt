use Rattle.std.proofs.Common.{◌≡◌, drop, take}
use Rattle.std.specs.List.{flat_map, find}
use Rattle.csl_tree.specs.Tokens.{child_tokens}
use Rattle.csl_tree.specs.Search.{preorder, child_preorder, has_meta, HasNoMeta}
use Rattle.csl_tree.proofs.elem.+removal.Given as goal

-- nothing has changed, and no element in the children before this one has a meta
abbrev pub invariant-ElemChildren::remove_any_meta-loop-i : goal.invariant-ElemChildren::remove_any_meta-loop-i
invariant-ElemChildren::remove_any_meta-loop-i l =
    (l.self ≡ l.fn.self)
    × (find has_meta (preorder l.fn.self) ≡ find has_meta (flat_map child_preorder (drop l.i l.fn.self.0.items)))
    × HasNoMeta (flat_map child_tokens (take l.i l.fn.self.0.items))
