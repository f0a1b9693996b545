use Rattle.std.proofs.Common.{◌<◌, ◌≢◌, length, sym, subst, ◌∙◌, arith, length-set, get_or-set_other}
use Rattle.std.specs.Fn.{CalledAt}
use Rattle.csl_tree.specs.declared.elem.ElemChild.{ElemChild}
use Rattle.csl_tree.specs.Links.{KeepsInTurn}
use Rattle.csl_tree.specs.Tokens.{child_tokens}
use Rattle.csl_tree.proofs.KeptLinks.{kept_inside, one_visited, all_visited}
use Rattle.csl_tree.proofs.elem.+links.Goals as goal

pub ElemChild::keep_links_by-returns-then-is_some-clause-kept : goal.ElemChild::keep_links_by-returns-then-is_some-clause-kept
ElemChild::keep_links_by-returns-then-is_some-clause-kept g t c =
    kept_inside (CalledAt g.F.FnMut) _ _ c.args.self.now c.children_mut.result.now c.keep_links_by.new.self c.children_mut.ensures.value c.keep_links_by.ensures.kept

pub ElemChildren::keep_links_by-loop-child-preserved : goal.ElemChildren::keep_links_by-loop-child-preserved
ElemChildren::keep_links_by-loop-child-preserved g t c =
    let called = CalledAt g.F.FnMut in
    let xs = c.deref_mut-child-items.result.now in
    let ys = c.loop-child.child-items in
    let i = c.loop-child.child-index in
    let new = c.keep_links_by.new.self in
    let inside : i < length xs = omega (arith, c.loop-child-test.true, c.loop-child.invariant.2.0) in
    let kept = subst (λ (k : ElemChild). KeepsInTurn called c.loop-child.is_allowed (child_tokens k) (child_tokens new) c.keep_links_by.new.is_allowed) (sym c.child-item.is) c.keep_links_by.ensures.kept in (
      c.keep_links_by.ensures.callable,
      one_visited called _ _ _ xs ys i c.child-item.result new c.loop-child.invariant.1 inside c.child-item.is kept,
      (length-set ys i new ∙ c.loop-child.invariant.2.0, λ k d h. let other : k ≢ i = omega (arith, h) in get_or-set_other ys i k new d other ∙ c.loop-child.invariant.2.1 k d (omega (arith, h))),
    )

pub ElemChildren::keep_links_by-returns-clause-kept : goal.ElemChildren::keep_links_by-returns-clause-kept
ElemChildren::keep_links_by-returns-clause-kept g t c =
    all_visited (CalledAt g.F.FnMut) _ _ c.args.self.now c.deref_mut-child-items.result.now c.loop-child.child-items c.loop-child.child-index c.deref_mut-child-items.ensures.value c.loop-child.invariant.1
    (omega (arith, c.loop-child-test.false))
    (c.loop-child.auto.child-items ∙ c.deref_mut-child-items.ensures.len)
