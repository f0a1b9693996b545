use Rattle.std.proofs.Common.{Some, None, sym, ap, ◌∙◌}
use Rattle.csl_tree.specs.declared.elem.ElemChild.TheOpen.{Text, Elem, Markup, Link, Transparent}
use Rattle.csl_tree.specs.declared.elem.ElemChild.TheViews.{out-ElemChild, outs-Text, outs-Elem, outs-Markup, outs-Link, outs-Transparent}
use Rattle.csl_tree.specs.declared.elem.Elem as elem
use Rattle.csl_tree.specs.Search.{last_text}
use Rattle.csl_tree.proofs.Searches.{last_is, last_with}
use Rattle.csl_tree.proofs.elem.ElemChildren.+last_text.Goals as goal

pub returns-in-Some-Text : goal.returns-in-Some-Text
returns-in-Some-Text t c =
    let w = c.in-Some-Text in
    sym (last_with c.args.self.now c.deref.result.now w.field-0.now (Text w.text) c.deref.ensures.value w.ensures.value (ap out-ElemChild w.field-0-is ∙ outs-Text _) ∙ ap Some (sym w.text-is))

pub returns-in-Some-Elem : goal.returns-in-Some-Elem
returns-in-Some-Elem t c =
    let w = c.in-Some-Elem in
    sym (last_with c.args.self.now c.deref.result.now w.field-0.now (Elem w.elem) c.deref.ensures.value w.ensures.value (ap out-ElemChild w.field-0-is ∙ outs-Elem _) ∙ ap (λ (e : elem.Elem). last_text (elem.out-Elem e).children) (sym w.elem-is) ∙ sym c.last_text.ensures)

pub returns-in-Some-Markup : goal.returns-in-Some-Markup
returns-in-Some-Markup t c =
    let w = c.in-Some-Markup in
    sym (last_with c.args.self.now c.deref.result.now w.field-0.now (Markup w.field-0-0) c.deref.ensures.value w.ensures.value (ap out-ElemChild w.field-0-is ∙ outs-Markup _))

pub returns-in-Some-Link : goal.returns-in-Some-Link
returns-in-Some-Link t c =
    let w = c.in-Some-Link in
    sym (last_with c.args.self.now c.deref.result.now w.field-0.now (Link w.field-0-0 w.field-0-1) c.deref.ensures.value w.ensures.value (ap out-ElemChild w.field-0-is ∙ outs-Link _ _))

pub returns-in-Some-Transparent : goal.returns-in-Some-Transparent
returns-in-Some-Transparent t c =
    let w = c.in-Some-Transparent in
    sym (last_with c.args.self.now c.deref.result.now w.field-0.now (Transparent w.field-0-0 w.field-0-1) c.deref.ensures.value w.ensures.value (ap out-ElemChild w.field-0-is ∙ outs-Transparent _ _))

pub returns-in-None : goal.returns-in-None
returns-in-None t c = sym (last_is c.args.self.now c.deref.result.now None c.deref.ensures.value c.in-None.ensures.value)
