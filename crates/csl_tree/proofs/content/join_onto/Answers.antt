use Rattle.std.proofs.Common.{◌∙◌}
use Rattle.csl_tree.proofs.Appended.{elem_child, markup_child, link_child, transparent_child}
use Rattle.csl_tree.proofs.Trees.{elem_tokens_are}
use Rattle.csl_tree.proofs.JoinedTexts.{solid_apart}
use Rattle.csl_tree.proofs.content.join_onto.Goals as goal

pub returns-in-Elem-clause-apart : goal.returns-in-Elem-clause-apart
returns-in-Elem-clause-apart c = rw c.in-Elem.is (solid_apart _ _ _ _ (elem_child c.in-Elem.field-0 ∙ elem_tokens_are c.in-Elem.field-0))

pub returns-in-Markup-clause-apart : goal.returns-in-Markup-clause-apart
returns-in-Markup-clause-apart c = rw c.in-Markup.is (solid_apart _ _ _ _ (markup_child c.in-Markup.field-0))

pub returns-in-Link-clause-apart : goal.returns-in-Link-clause-apart
returns-in-Link-clause-apart c = rw c.in-Link.is (solid_apart _ _ _ _ (link_child c.in-Link.text c.in-Link.url))

pub returns-in-Transparent-clause-apart : goal.returns-in-Transparent-clause-apart
returns-in-Transparent-clause-apart c = rw c.in-Transparent.is (solid_apart _ _ _ _ (transparent_child c.in-Transparent.cite_idx c.in-Transparent.format))
