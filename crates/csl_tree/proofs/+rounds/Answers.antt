use Rattle.std.proofs.Common.{◌≡◌, refl, sym, ap, ◌∙◌}
use Rattle.csl_tree.proofs.RoundSteps.{text_put, leaf_put, markup_leaf, link_leaf, transparent_leaf, plain_is, inside_put, elem_put, all_put, is_rounded, elem_rounded}
use Rattle.csl_tree.specs.Tree.{tree, row, tokens_of}
use Rattle.csl_tree.specs.Simplify.{simplify_once}
use Rattle.csl_tree.specs.declared.elem.Elem.{Elem}
use Rattle.csl_tree.specs.declared.elem.ElemChildren.{ElemChildren}
use Rattle.csl_tree.proofs.TreeTokens.{tree_out, tokens_are}
use Rattle.csl_tree.proofs.+rounds.Goals as goal

pub elem::ElemChild::simplify_into-returns-in_ok-push_text_to-in-Text : goal.elem::ElemChild::simplify_into-returns-in_ok-push_text_to-in-Text
elem::ElemChild::simplify_into-returns-in_ok-push_text_to-in-Text t c = record { ok = rw c.in-Text.is (text_put _ _ c.in-Text.text _ c.as_str.ensures.value c.in_ok-push_text_to-in-Text.ensures.ok) }

pub elem::ElemChild::simplify_into-returns-in_ok-append-in-Elem : goal.elem::ElemChild::simplify_into-returns-in_ok-append-in-Elem
elem::ElemChild::simplify_into-returns-in_ok-append-in-Elem t c = record { ok = rw c.in-Elem.is (inside_put _ _ c.in-Elem.elem c.in_ok-copies-in-Elem.field-0 (plain_is _ _ _ c.may_inline.ensures ∙ c.if-may_inline.true) c.in_ok-append-in-Elem.ensures.items c.in_ok-copies-in-Elem.ensures) }

pub elem::ElemChild::simplify_into-returns-in_ok-push-in-Elem : goal.elem::ElemChild::simplify_into-returns-in_ok-push-in-Elem
elem::ElemChild::simplify_into-returns-in_ok-push-in-Elem t c = record { ok = rw c.in-Elem.is (elem_put _ _ c.in-Elem.elem _ (plain_is _ _ _ c.may_inline.ensures ∙ c.if-may_inline.false) c.in_ok-push-in-Elem.ensures.items c.in_ok-simplify-in-Elem.ensures.round) }

pub elem::ElemChild::simplify_into-returns-in_ok-push-in-Markup : goal.elem::ElemChild::simplify_into-returns-in_ok-push-in-Markup
elem::ElemChild::simplify_into-returns-in_ok-push-in-Markup t c = record { ok = leaf_put _ _ c.args.self.now _ (rw c.in-Markup.is (markup_leaf c.in-Markup.field-0)) c.in_ok-push-in-Markup.ensures.items c.in_ok-clone-in-Markup.ensures }

pub elem::ElemChild::simplify_into-returns-in_ok-push-in-Link : goal.elem::ElemChild::simplify_into-returns-in_ok-push-in-Link
elem::ElemChild::simplify_into-returns-in_ok-push-in-Link t c = record { ok = leaf_put _ _ c.args.self.now _ (rw c.in-Link.is (link_leaf c.in-Link.text c.in-Link.url)) c.in_ok-push-in-Link.ensures.items c.in_ok-clone-in-Link.ensures }

pub elem::ElemChild::simplify_into-returns-in_ok-push-in-Transparent : goal.elem::ElemChild::simplify_into-returns-in_ok-push-in-Transparent
elem::ElemChild::simplify_into-returns-in_ok-push-in-Transparent t c = record { ok = leaf_put _ _ c.args.self.now _ (rw c.in-Transparent.is (transparent_leaf c.in-Transparent.cite_idx c.in-Transparent.format)) c.in_ok-push-in-Transparent.ensures.items c.in_ok-clone-in-Transparent.ensures }

pub simplify::simplify_children-returns : goal.simplify::simplify_children-returns
simplify::simplify_children-returns t c =
    let new : ElemChildren = record { 0 = c.loop-child.simplified } in
    let made : tree new ≡ simplify_once (tree c.args.children.now) =
    tree_out new ∙ all_put _ c.deref-child-items.result.now _ _ c.loop-child-test.false c.loop-child.invariant
    ∙ ap (λ l. simplify_once (row l)) c.deref-child-items.ensures.value ∙ sym (ap simplify_once (tree_out c.args.children.now)) in
    let r = is_rounded (tree c.args.children.now) (tree new) made in
    record { round = made; kept = r.kept; normal = r.normal; fewer = r.fewer; as_tokens = tokens_are new ∙ ap tokens_of made }

pub elem::Elem::simplify-returns : goal.elem::Elem::simplify-returns
elem::Elem::simplify-returns t c =
    let new : Elem = record { children = c.in_ok-children.children; display = c.args.self.now.display; meta = c.in_ok-meta.meta } in
    let r = elem_rounded c.args.self.now new refl c.in_ok-meta.ensures c.in_ok-children.ensures.round in
    record { round = r.round; kept = r.kept; normal = r.normal; fewer = r.fewer }
