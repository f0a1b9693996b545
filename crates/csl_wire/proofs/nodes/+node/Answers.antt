use Rattle.std.proofs.Common.{◌≡◌, sym, ap, subst, ◌∙◌, Some, map, option_map}
use Rattle.std.specs.Prelude.{unwrap_or}
use Rattle.serde_json.specs.View.{view}
use Rattle.csl_elements.specs.declared.element.ChooseMatch.TheVariants.{All}
use Rattle.csl_elements.specs.View.{view_node}
use Rattle.csl_wire.specs.Nodes.{AreNodes, IsNode}
use Rattle.csl_wire.proofs.NodesRead.{branch_read, label_node, text_node}
use Rattle.csl_wire.proofs.nodes.+node.Goals as goal

pub branch-returns : goal.branch-returns
branch-returns t c =
    rw (sym c.in_ok-form.ensures.value) (branch_read (AreNodes c.args.reader.marks c.args.left) (view c.in_ok-form.form.value.now)
    c.in_ok-disambiguate.disambiguate c.in_ok-is_numeric.is_numeric
    c.in_ok-is_uncertain_date.is_uncertain_date c.in_ok-locator.locator c.in_ok-position.position
    c.in_ok-type_.type_ c.in_ok-variable.variable c.unwrap_or-match_.result
    c.in_ok-children.children (map view c.in_ok-items.items.now)
    c.in_ok-disambiguate.ensures c.in_ok-is_numeric.ensures c.in_ok-is_uncertain_date.ensures
    c.in_ok-locator.ensures c.in_ok-position.ensures c.in_ok-type_.ensures c.in_ok-variable.ensures
    (ap (option_map (λ o. unwrap_or o All)) c.in_ok-choice.ensures ∙ ap Some (sym c.unwrap_or-match_.ensures))
    c.in_ok-items.ensures
    (rw c.in_ok-children.ensures.ok at c.nodes.ensures))

pub node-returns-in_ok-within-in-text : goal.node-returns-in_ok-within-in-text
node-returns-in_ok-within-in-text t c =
    subst (λ n. IsNode c.args.reader.marks (AreNodes c.args.reader.marks c.args.left) (view c.args.value.now) (view_node n)) (sym c.into.ensures)
    (text_node c.args.reader.marks (AreNodes c.args.reader.marks c.args.left) c.in_ok-kind.kind.now (view c.in_ok-kind.inside.now)
    (view c.args.value.now) c.in_ok-within-in-text.field-0 c.in_ok-kind.ensures c.in-text.is
    (rw c.in_ok-within-in-text.ensures.ok at c.text.ensures))

pub node-returns-in_ok-within-in-label : goal.node-returns-in_ok-within-in-label
node-returns-in_ok-within-in-label t c =
    subst (λ n. IsNode c.args.reader.marks (AreNodes c.args.reader.marks c.args.left) (view c.args.value.now) (view_node n)) (sym c.into-in-label.ensures)
    (label_node c.args.reader.marks (AreNodes c.args.reader.marks c.args.left) c.in_ok-kind.kind.now (view c.in_ok-kind.inside.now)
    (view c.args.value.now) c.in_ok-within-in-label.field-0 c.in_ok-kind.ensures c.in-label.is
    (rw c.in_ok-within-in-label.ensures.ok at c.label.ensures))
