use Rattle.std.proofs.Common.{◌<◌, ◌∙◌, List, length, take, drop, ap, sym, arith}
use Rattle.csl_tree.specs.Content.{◌++>◌, affixed_content}
use Rattle.csl_tree.specs.Flat.{OpenParts, close_part, affix_content}
use Rattle.csl_tree.specs.FlatChildren.{content_of, open_parts}
use Rattle.csl_tree.specs.declared.elem.ElemChild.{ElemChild}
use Rattle.csl_tree.proofs.Flats.{spliced, closed_with, closed_none, affixed_none, none_inner}
use Rattle.csl_tree.proofs.flat.FlatTree.close_spliced.Goals as goal
use Rattle.csl_tree.proofs.flat.FlatTree.close_spliced.Goals.{then-end-self+in_ok-reserve_affixes, else-end-self}

pub returns-clause-ok : goal.returns-clause-ok
returns-clause-ok c =
    let xs = c.self.inside.children.items in
    let start = c.self.inside.start in
    let around = c.self.inside.around.items in
    let old = open_parts xs start around in
    let b = affix_content c.args.before in
    let a = affix_content c.args.after in
    let close = λ (p : OpenParts). close_part (affixed_content b a p.inner) p in
    let is_open : 0 < length old.outer = omega (arith, c.requires.is_open, ap (λ (p : OpenParts). length p.outer) c.self.view_is) in
    elim c.if-end-self.branch [
      | then-end-self+in_ok-reserve_affixes w ↦ (
          let n = c.len-end.result in
          let r = w.reserve_affixes.ensures.items in
          let all = spliced xs w.insert_text.new.children.items w.insert_text-then-end-self.new.children.items n start around b a (omega (arith, c.len-end.ensures, c.self.inside.children.ok.0)) w.if-end-self.true
          (w.insert_text.ensures.before ∙ ap (take n) r) (w.insert_text.ensures.from ∙ ap (λ (l : List ElemChild). a ++> content_of (drop n l)) r)
          w.insert_text-then-end-self.ensures.before w.insert_text-then-end-self.ensures.from in
          c.leave.ensures ∙ ap (λ (p : OpenParts). close_part p.inner p) w.self-is ∙ closed_with (open_parts w.insert_text-then-end-self.new.children.items start around) old (affixed_content b a old.inner) all is_open ∙ ap close c.self.view_is
          )
      | else-end-self w ↦ (
          let none = none_inner xs start around (omega (arith, c.len-end.ensures, c.self.inside.children.ok.0, w.if-end-self.false)) in
          c.leave.ensures ∙ ap (λ (p : OpenParts). close_part p.inner p) (w.self-is ∙ sym c.self.view_is) ∙ closed_none old (affixed_content b a old.inner) none (affixed_none b a old.inner none) ∙ ap close c.self.view_is
          )
    ]
