use Rattle.std.proofs.Common.{◌+◌, ◌*◌, ◌≤◌, drop}
use Rattle.csl_elements.specs.Node.{size, sizes, expanded_substitutes_size, expand, expand_nodes}
use Rattle.csl_elements.specs.View.{view_node, view_text, view_group, view_choose, view_names, view_nodes}
use Rattle.csl_style.specs.Expanded.{macro_env}
use Rattle.csl_context.specs.Context.{render_input}
use Rattle.csl_render.specs.DryRun.{Adds, dry_of}
use Rattle.csl_render.specs.Names.{expanded_substitutes_of}
use Rattle.csl_render.proofs.Plans.{ArePlanned, CountsSoFar}
use Rattle.csl_render.proofs.+info.Given as goal

abbrev pub decreases-element::LayoutRenderingElementNode::node_info : goal.decreases-element::LayoutRenderingElementNode::node_info
decreases-element::LayoutRenderingElementNode::node_info g l = 2 * size (expand (macro_env l.run.now.now.style) (view_node l.self.now)) + 1

abbrev pub decreases-text::TextNode::node_info : goal.decreases-text::TextNode::node_info
decreases-text::TextNode::node_info g l = 2 * size (expand (macro_env l.run.now.now.style) (view_text l.self.now))

abbrev pub decreases-text::call_info : goal.decreases-text::call_info
decreases-text::call_info g l = 2 * sizes (expand_nodes (macro_env l.run.now.now.style) (view_nodes l.nodes.now)) + 1

abbrev pub decreases-group::GroupNode::node_info : goal.decreases-group::GroupNode::node_info
decreases-group::GroupNode::node_info g l = 2 * size (expand (macro_env l.run.now.now.style) (view_group l.self.now))

abbrev pub decreases-choose::ChooseNode::node_info : goal.decreases-choose::ChooseNode::node_info
decreases-choose::ChooseNode::node_info g l = 2 * size (expand (macro_env l.run.now.now.style) (view_choose l.self.now))

abbrev pub decreases-names::NamesNode::node_info : goal.decreases-names::NamesNode::node_info
decreases-names::NamesNode::node_info g l = 2 * size (expand (macro_env l.run.now.now.style) (view_names l.self.now))

abbrev pub decreases-names::substitute_info : goal.decreases-names::substitute_info
decreases-names::substitute_info g l = 2 * expanded_substitutes_size (expanded_substitutes_of (macro_env l.run.now.now.style) l.names.now) + 1

abbrev pub decreases-element::nodes_info : goal.decreases-element::nodes_info
decreases-element::nodes_info g l = 2 * sizes (expand_nodes (macro_env l.run.now.now.style) (view_nodes l.nodes.now))

-- The items so far, with any for the remaining nodes, are those of all nodes. In each state that
-- agrees on what was read so far, the results so far, with those of the remaining nodes, count as
-- those of all nodes.
abbrev pub invariant-element::nodes_info-loop-node : goal.invariant-element::nodes_info-loop-node
invariant-element::nodes_info-loop-node g l =
    let w = render_input g.T.EntryLike.answers l.fn.run.now in
    let d = dry_of l.fn.run in
    let rest = expand_nodes (macro_env l.fn.run.now.style) (view_nodes (drop l.node-index l.nodes)) in
    let all = expand_nodes (macro_env l.fn.run.now.style) (view_nodes l.nodes) in
    record {
      adds : Adds (ArePlanned w d rest all) l.fn.run l.run;
      so_far : CountsSoFar w d rest all l.sum;
      inside : sizes rest ≤ sizes all;
    }

abbrev pub decreases-element::tried_info : goal.decreases-element::tried_info
decreases-element::tried_info g l = 2 * sizes (expand_nodes (macro_env l.run.now.now.style) (view_nodes l.nodes.now))

-- as that of `nodes_info`
abbrev pub invariant-element::tried_info-loop-node : goal.invariant-element::tried_info-loop-node
invariant-element::tried_info-loop-node g l =
    let w = render_input g.T.EntryLike.answers l.fn.run.now in
    let d = dry_of l.fn.run in
    let rest = expand_nodes (macro_env l.fn.run.now.style) (view_nodes (drop l.node-index l.nodes)) in
    let all = expand_nodes (macro_env l.fn.run.now.style) (view_nodes l.nodes) in
    record {
      adds : Adds (ArePlanned w d rest all) l.fn.run l.run;
      so_far : CountsSoFar w d rest all l.sum;
      inside : sizes rest ≤ sizes all;
    }
