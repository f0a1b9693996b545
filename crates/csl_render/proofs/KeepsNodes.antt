-- Each node preserves the state (`Keeps`). The recursion is that of `node_output`, with a line for
-- each case. `KeepsLeaves` has the leaves. Each node in a row preserves the state that the one
-- before it left.
use Rattle.std.proofs.Common.{Bool, true, false, []}
use Rattle.csl_elements.specs.Node.{ExpandedNode, expanded_text, expanded_macro, unknown_macro, expanded_number, expanded_label, expanded_date, expanded_names, shorthand, expanded_choose, expanded_group, ExpandedNodes, no_expanded_nodes, expanded_node, ExpandedBranches, no_expanded_branches, expanded_otherwise, expanded_branch, ExpandedSubstitutes, no_expanded_substitutes, expanded_substitute}
use Rattle.csl_tree.specs.Tokens.{has_text}
use Rattle.csl_context.specs.State.{State, Inherited, with_node_formatting}
use Rattle.csl_context.specs.RenderInput.{RenderInput}
use Rattle.csl_names.specs.NamesLists.{all_empty, lists_state, resolved_lists}
use Rattle.csl_nodes.specs.Condition.{branch_matches}
use Rattle.csl_nodes.specs.Usage.{should_render_group}
use Rattle.csl_nodes.specs.Text.{RenderOutput, render_output, then_output}
use Rattle.csl_render.specs.Keeps.{Keeps}
use Rattle.csl_render.specs.Names.{in_substitute, suppressing_from}
use Rattle.csl_render.specs.Render.{Renderable, of_layout, of_node, output_in}
use Rattle.csl_render.specs.Tree.{info, node_output, nodes_output, delimited_output, branches_output, output_until_text, substitute_output, in_macro, in_group, delimited_child_output, refused_in}
use Rattle.csl_render.proofs.KeepsLeaves.{keeps_itself, keeps_through, either_keeps, lists_keep, target_keeps, number_keeps, date_keeps, names_keep}

module _ (w : RenderInput) where
  mutual
    tree_keeps : (f : ExpandedNode) (inh : Inherited) (s : State) → Keeps s (node_output w f inh s).state
    tree_keeps (expanded_text t d) inh s = target_keeps w t s
    tree_keeps (expanded_macro fs d) inh s =
        either_keeps s (should_render_group (info w s (expanded_macro fs d)).flags) (render_output _ (nodes_output w fs (in_macro d inh) s).state) (render_output [] s) (sum_keeps fs (in_macro d inh) s) (keeps_itself s)
    tree_keeps unknown_macro inh s = keeps_itself s
    tree_keeps (expanded_number n) inh s = number_keeps w n inh s
    tree_keeps (expanded_label v l) inh s = keeps_itself s
    tree_keeps (expanded_date n) inh s = date_keeps w n n.variable inh s
    tree_keeps (expanded_names n is) inh s =
        let t = lists_state w s n.variables in
        let ls = resolved_lists w s n.variables in
        names_keep w n ls (refused_in w n is (all_empty ls) t) inh (substitute_output w is (in_substitute n inh) (suppressing_from t)) s t
        (lists_keep w n.variables s) (insteads_keep is (in_substitute n inh) (suppressing_from t))
    tree_keeps (shorthand written n) inh s =
        let t = lists_state w s n.variables in
        let ls = resolved_lists w s n.variables in
        names_keep w n ls (refused_in w n no_expanded_substitutes (all_empty ls) t) inh (render_output [] (suppressing_from t)) s t (lists_keep w n.variables s) (keeps_itself (suppressing_from t))
    tree_keeps (expanded_choose cs) inh s = cases_keep cs inh s
    tree_keeps (expanded_group delimiter d fs) inh s = delimited_keep fs (in_group delimiter d inh) true s

    sum_keeps : (fs : ExpandedNodes) (inh : Inherited) (s : State) → Keeps s (nodes_output w fs inh s).state
    sum_keeps no_expanded_nodes inh s = keeps_itself s
    sum_keeps (expanded_node f fs) inh s =
        let t = (node_output w f inh s).state in
        keeps_through s t (nodes_output w fs inh t).state (tree_keeps f inh s) (sum_keeps fs inh t)

    delimited_keep : (fs : ExpandedNodes) (inh : Inherited) (first : Bool) (s : State) → Keeps s (delimited_output w fs inh first s).state
    delimited_keep no_expanded_nodes inh first s = keeps_itself s
    delimited_keep (expanded_node f fs) inh first s =
        let t = (node_output w f inh s).state in
        either_keeps s (info w s f).prints (then_output (delimited_child_output first inh (node_output w f inh s)).content (delimited_output w fs inh false t)) (delimited_output w fs inh first s)
        (keeps_through s t (delimited_output w fs inh false t).state (tree_keeps f inh s) (delimited_keep fs inh false t)) (delimited_keep fs inh first s)

    cases_keep : (cs : ExpandedBranches) (inh : Inherited) (s : State) → Keeps s (branches_output w cs inh s).state
    cases_keep no_expanded_branches inh s = keeps_itself s
    cases_keep (expanded_otherwise fs) inh s = delimited_keep fs inh true s
    cases_keep (expanded_branch ts fs cs) inh s =
        either_keeps s (branch_matches w s ts) (delimited_output w fs inh true s) (branches_output w cs inh s) (delimited_keep fs inh true s) (cases_keep cs inh s)

    insteads_keep : (is : ExpandedSubstitutes) (inh : Inherited) (s : State) → Keeps s (substitute_output w is inh s).state
    insteads_keep no_expanded_substitutes inh s = keeps_itself s
    insteads_keep (expanded_substitute fs is) inh s = until_keeps fs inh (render_output [] s)

    until_keeps : (fs : ExpandedNodes) (inh : Inherited) (m : RenderOutput) → Keeps m.state (output_until_text w fs inh m).state
    until_keeps no_expanded_nodes inh m = keeps_itself m.state
    until_keeps (expanded_node f fs) inh m =
        let n = then_output m.content (node_output w f inh m.state) in
        either_keeps m.state (has_text m.content) m (output_until_text w fs inh n) (keeps_itself m.state)
        (keeps_through m.state n.state (output_until_text w fs inh n).state (tree_keeps f inh m.state) (until_keeps fs inh n))

  pub rendering_keeps : (r : Renderable) (inh : Inherited) (s : State) → Keeps s (output_in w r inh s).state
  rendering_keeps (of_layout l) inh s = sum_keeps l.elements (record (with_node_formatting l.formatting inh) { delimiter = l.delimiter }) s
  rendering_keeps (of_node f) inh s = tree_keeps f inh s
