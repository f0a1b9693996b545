use Rattle.std.proofs.Common.{◌≡◌, sym, ap, ◌∙◌}
use Rattle.csl_tree.specs.Tree.{row, elem_tree, element_then, empty_tree}
use Rattle.csl_tree.specs.Simplify.{simplify_fully_after, tree_inside, with_inside}
use Rattle.csl_tree.specs.declared.elem.Elem.{Elem}
use Rattle.csl_tree.specs.declared.elem.ElemChildren.{ElemChildren}
use Rattle.csl_tree.proofs.TreeTokens.{tree_out, elem_tree_out}
use Rattle.csl_tree.proofs.RoundSteps.{plain_is}
use Rattle.csl_tree.proofs.OnePass.{pass-elem, pass-end}
use Rattle.csl_tree.proofs.elem.+pass.Goals as goal

pub ElemChild::simplify_fully_into-returns-in_ok-push-in-Elem : goal.ElemChild::simplify_fully_into-returns-in_ok-push-in-Elem
ElemChild::simplify_fully_into-returns-in_ok-push-in-Elem t c =
    let e = c.in-Elem.elem in
    let children : ElemChildren = record { 0 = c.simplify_fully_into-else-may_inline.new.simplified } in
    let new : Elem = record { children = children; display = e.display; meta = c.in_ok-meta-in-Elem.meta } in
    let within : tree_inside new ≡ simplify_fully_after empty_tree (tree_inside e) = tree_out children ∙ c.in_ok-simplify_fully_into-in-Elem-2.ensures.ok ∙ ap (λ l. simplify_fully_after (row l) (tree_inside e)) c.new-inside.ensures.items in
    let same : elem_tree new ≡ with_inside e (simplify_fully_after empty_tree (tree_inside e)) = elem_tree_out new ∙ (λ i. element_then e.display (c.in_ok-meta-in-Elem.ensures i) (within i) empty_tree) in
    record { ok = rw c.in-Elem.is (pass-elem _ _ e new (plain_is _ _ _ c.may_inline.ensures ∙ c.if-may_inline.false) c.in_ok-push-in-Elem.ensures.items same) }

pub ElemChildren::simplify_fully_into-returns : goal.ElemChildren::simplify_fully_into-returns
ElemChildren::simplify_fully_into-returns t c = record {
  ok = pass-end _ c.deref-child-items.result.now _ _ c.loop-child-test.false c.loop-child.invariant
      ∙ ap (λ l. simplify_fully_after (row c.args.simplified.now.items) (row l)) c.deref-child-items.ensures.value ∙ sym (ap (simplify_fully_after (row c.args.simplified.now.items)) (tree_out c.args.self.now));
}
