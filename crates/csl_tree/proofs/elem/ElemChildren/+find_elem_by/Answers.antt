use Rattle.std.proofs.Common.{◌≡◌, ◌∙◌, refl}
use Rattle.csl_tree.proofs.Searches.{preorder_out, elem_turn, other_turn}
use Rattle.csl_tree.proofs.elem.ElemChildren.+find_elem_by.Goals as goal
use Rattle.csl_tree.proofs.elem.ElemChildren.+find_elem_by.Goals.{in-Some+else-f+in_default-find_elem_by, in_default}

pub loop-child-init : goal.loop-child-init
loop-child-init g t c = λ p by. rw (preorder_out c.args.self.now, c.deref-child-items.ensures.value)

pub returns-then-f : goal.returns-then-f
returns-then-f g t c = λ p by.
    let yes : c.f.result ≡ p c.in-Some.elem.now = by _ _ c.f.ensures in
    rw (c.loop-child.invariant p by, elem_turn p c.deref-child-items.result.now c.loop-child.child-index c.child-item.result c.in-Some.elem.now c.loop-child-test.true c.child-item.is c.in-Some.ensures, ← yes, c.if-f.true) refl

pub returns-in-Some-find_elem_by : goal.returns-in-Some-find_elem_by
returns-in-Some-find_elem_by g t c = λ p by.
    let no : c.f.result ≡ p c.in-Some.elem.now = by _ _ c.f.ensures in
    rw (c.loop-child.invariant p by, elem_turn p c.deref-child-items.result.now c.loop-child.child-index c.child-item.result c.in-Some.elem.now c.loop-child-test.true c.child-item.is c.in-Some.ensures, ← no, c.if-f.false, ← c.in-Some-find_elem_by.ensures p by) refl

pub loop-child-preserved : goal.loop-child-preserved
loop-child-preserved g t c = λ p by. c.loop-child.invariant p by ∙ elim c.match-as_elem.branch [
  | in-Some+else-f+in_default-find_elem_by w ↦
      let no : w.f.result ≡ p w.in-Some.elem.now = by _ _ w.f.ensures in
      rw (elem_turn p c.deref-child-items.result.now c.loop-child.child-index c.child-item.result w.in-Some.elem.now c.loop-child-test.true c.child-item.is w.in-Some.ensures, ← no, w.if-f.false, ← w.in_default-find_elem_by.ensures p by) refl
  | in_default w ↦ other_turn p c.deref-child-items.result.now c.loop-child.child-index c.child-item.result c.loop-child-test.true c.child-item.is w.in_default.ensures
]
