use Rattle.std.proofs.Common.{◌≡◌, ◌<◌, ◌∙◌, not, length, ap, sym, arith}
use Rattle.csl_tree.specs.Tokens.{has_children, optional_meta}
use Rattle.csl_tree.specs.declared.elem.Elem.{Elem}
use Rattle.csl_tree.specs.Content.{elem_content}
use Rattle.csl_tree.specs.Flat.{OpenParts, close_part}
use Rattle.csl_tree.specs.FlatChildren.{open_parts}
use Rattle.csl_tree.proofs.Flats.{boxed, closed_with, closed_none, elem_none, without_children, with_children}
use Rattle.csl_tree.proofs.flat.FlatTree.close_elem.Goals as goal
use Rattle.csl_tree.proofs.flat.FlatTree.close_elem.Goals.{then-not-is_empty+in_ok-join_for_elem+in_ok-split_off, else-not-is_empty}

pub returns-clause-ok : goal.returns-clause-ok
returns-clause-ok c =
    let xs = c.self.inside.children.items in
    let start = c.self.inside.start in
    let around = c.self.inside.around.items in
    let old = open_parts xs start around in
    let box = elem_content c.args.display (optional_meta c.args.meta) in
    let close = λ (p : OpenParts). close_part (box p.inner) p in
    let is_open : 0 < length old.outer = omega (arith, c.requires.is_open, ap (λ (p : OpenParts). length p.outer) c.self.view_is) in
    let empty : not (has_children old.inner) ≡ c.is_empty.result = ap (λ (p : OpenParts). not (has_children p.inner)) c.self.view_is ∙ sym c.is_empty.ensures in
    elim c.if-not-is_empty.branch [
      | then-not-is_empty+in_ok-join_for_elem+in_ok-split_off w ↦ (
          let joins = w.in_ok-join_for_elem.ensures in
          let elem : Elem = record { children = record { 0 = w.in_ok-split_off.field-0 }; display = c.args.display; meta = c.args.meta } in
          let all = boxed xs w.join_for_elem.new.children.items w.split_off.new.self.items w.push_reserved.new.self.items start around elem (with_children xs start around (empty ∙ w.if-not-is_empty.true)) joins.before joins.same joins.joined w.in_ok-split_off.ensures.tail w.in_ok-split_off.ensures.items w.push_reserved.ensures.items in
          c.leave.ensures ∙ ap (λ (p : OpenParts). close_part p.inner p) w.self-is ∙ closed_with (open_parts w.push_reserved.new.self.items start around) old (box old.inner) all is_open ∙ ap close c.self.view_is
          )
      | else-not-is_empty w ↦ (
          let none = without_children xs start around (empty ∙ w.if-not-is_empty.false) in
          c.leave.ensures ∙ ap (λ (p : OpenParts). close_part p.inner p) (w.self-is ∙ sym c.self.view_is) ∙ closed_none old (box old.inner) none (elem_none c.args.display (optional_meta c.args.meta) old.inner none) ∙ ap close c.self.view_is
          )
    ]
