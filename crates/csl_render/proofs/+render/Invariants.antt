use Rattle.std.proofs.Common.{◌≡◌, ◌+◌, ◌*◌, ◌≤◌, true, false, IfSome, drop}
use Rattle.csl_elements.specs.NamesParts.{names_node}
use Rattle.csl_elements.specs.Node.{size, sizes, expanded_substitutes_size, expand, expand_nodes, expand_substitute_nodes}
use Rattle.csl_elements.specs.View.{view_node, view_text, view_group, view_choose, view_names, view_nodes}
use Rattle.csl_style.specs.Expanded.{macro_env}
use Rattle.csl_context.specs.Context.{render_input}
use Rattle.csl_render.specs.Names.{expanded_substitutes_of}
use Rattle.csl_render.specs.Plan.{ArePlans}
use Rattle.csl_render.specs.Render.{with_whole_output}
use Rattle.csl_render.specs.Tree.{nodes_output, delimited_output, output_until_text}
use Rattle.csl_nodes.specs.Text.{render_output, with_output}
use Rattle.csl_render.proofs.+render.Given as goal

abbrev pub decreases-element::LayoutRenderingElementNode::render_with_plan : goal.decreases-element::LayoutRenderingElementNode::render_with_plan
decreases-element::LayoutRenderingElementNode::render_with_plan g l = 8 * size (expand (macro_env l.ctx.now.style) (view_node l.self.now)) + 3

abbrev pub decreases-text::TextNode::render_with_plan : goal.decreases-text::TextNode::render_with_plan
decreases-text::TextNode::render_with_plan g l = 8 * size (expand (macro_env l.ctx.now.style) (view_text l.self.now))

abbrev pub decreases-text::render_call : goal.decreases-text::render_call
decreases-text::render_call g l = 8 * sizes (expand_nodes (macro_env l.ctx.now.style) (view_nodes l.nodes.now)) + 3

abbrev pub decreases-text::render_planning_call : goal.decreases-text::render_planning_call
decreases-text::render_planning_call g l = 8 * sizes (expand_nodes (macro_env l.ctx.now.style) (view_nodes l.nodes.now)) + 2

abbrev pub decreases-text::render_macro : goal.decreases-text::render_macro
decreases-text::render_macro g l = 8 * sizes (expand_nodes (macro_env l.ctx.now.style) (view_nodes l.nodes.now)) + 1

abbrev pub decreases-group::GroupNode::render_with_plan : goal.decreases-group::GroupNode::render_with_plan
decreases-group::GroupNode::render_with_plan g l = 8 * size (expand (macro_env l.ctx.now.style) (view_group l.self.now)) + 2

abbrev pub decreases-group::render_planning_group : goal.decreases-group::render_planning_group
decreases-group::render_planning_group g l = 8 * size (expand (macro_env l.ctx.now.style) (view_group l.group.now)) + 1

abbrev pub decreases-group::render_group_by_plan : goal.decreases-group::render_group_by_plan
decreases-group::render_group_by_plan g l = 8 * size (expand (macro_env l.ctx.now.style) (view_group l.group.now))

abbrev pub decreases-choose::ChooseNode::render_with_plan : goal.decreases-choose::ChooseNode::render_with_plan
decreases-choose::ChooseNode::render_with_plan g l = 8 * size (expand (macro_env l.ctx.now.style) (view_choose l.self.now))

abbrev pub decreases-names::NamesNode::render_with_plan : goal.decreases-names::NamesNode::render_with_plan
decreases-names::NamesNode::render_with_plan g l = 8 * size (expand (macro_env l.ctx.now.style) (view_names l.self.now))

abbrev pub decreases-names::rendered::render_unplanned_names : goal.decreases-names::rendered::render_unplanned_names
decreases-names::rendered::render_unplanned_names g l = 8 * expanded_substitutes_size (expanded_substitutes_of (macro_env l.ctx.now.style) l.names.now) + 6

abbrev pub decreases-names::rendered::render_planning_names : goal.decreases-names::rendered::render_planning_names
decreases-names::rendered::render_planning_names g l = 8 * expanded_substitutes_size (expanded_substitutes_of (macro_env l.ctx.now.style) l.names.now) + 5

abbrev pub decreases-names::rendered::render_names_by_plan : goal.decreases-names::rendered::render_names_by_plan
decreases-names::rendered::render_names_by_plan g l = 8 * expanded_substitutes_size (expanded_substitutes_of (macro_env l.ctx.now.style) l.names.now) + 4

abbrev pub decreases-names::rendered::render_names : goal.decreases-names::rendered::render_names
decreases-names::rendered::render_names g l = 8 * expanded_substitutes_size (expanded_substitutes_of (macro_env l.ctx.now.style) l.names.now) + 3

abbrev pub decreases-names::rendered::render_lists : goal.decreases-names::rendered::render_lists
decreases-names::rendered::render_lists g l = 8 * expanded_substitutes_size (expanded_substitutes_of (macro_env l.ctx.now.style) l.names.now) + 2

abbrev pub decreases-names::rendered::render_substitute : goal.decreases-names::rendered::render_substitute
decreases-names::rendered::render_substitute g l = 8 * expanded_substitutes_size (expanded_substitutes_of (macro_env l.ctx.now.style) l.names.now) + 1

abbrev pub decreases-names::rendered::render_first_substitute : goal.decreases-names::rendered::render_first_substitute
decreases-names::rendered::render_first_substitute g l = 8 * sizes (expand_nodes (macro_env l.ctx.now.style) (view_nodes l.nodes.now)) + 1

abbrev pub decreases-names::rendered::render_until_text : goal.decreases-names::rendered::render_until_text
decreases-names::rendered::render_until_text g l = 8 * sizes (expand_nodes (macro_env l.ctx.now.style) (view_nodes l.nodes.now))

abbrev pub decreases-names::rendered::render_in_place : goal.decreases-names::rendered::render_in_place
decreases-names::rendered::render_in_place g l = 8 * size (expand (macro_env l.ctx.now.style) (view_node l.node.now)) + 4

abbrev pub decreases-element::render_all : goal.decreases-element::render_all
decreases-element::render_all g l = 8 * sizes (expand_nodes (macro_env l.ctx.now.style) (view_nodes l.nodes.now))

abbrev pub decreases-element::render_with_delimiter : goal.decreases-element::render_with_delimiter
decreases-element::render_with_delimiter g l = 8 * sizes (expand_nodes (macro_env l.ctx.now.style) (view_nodes l.nodes.now))

abbrev pub decreases-element::render_child : goal.decreases-element::render_child
decreases-element::render_child g l = 8 * size (expand (macro_env l.ctx.now.style) (view_node l.node.now)) + 4

abbrev pub decreases-element::render_by_plan : goal.decreases-element::render_by_plan
decreases-element::render_by_plan g l = 8 * size (expand (macro_env l.ctx.now.style) (view_node l.node.now)) + 5

abbrev pub decreases-element::render_planning : goal.decreases-element::render_planning
decreases-element::render_planning g l = 8 * size (expand (macro_env l.ctx.now.style) (view_node l.node.now)) + 6

abbrev pub decreases-element::render_if_it_prints : goal.decreases-element::render_if_it_prints
decreases-element::render_if_it_prints g l = 8 * size (expand (macro_env l.ctx.now.style) (view_node l.node.now)) + 7

-- the context so far, with the output of the remaining nodes, is the context with that of all
abbrev pub invariant-element::render_all-loop-node : goal.invariant-element::render_all-loop-node
invariant-element::render_all-loop-node g l =
    let w = render_input g.T.EntryLike.answers l.fn.ctx in
    let rest = expand_nodes (macro_env l.fn.ctx.style) (view_nodes (drop l.node-index l.nodes)) in
    record {
      sound : l.fn.ctx.failed ≡ false;
      frame : l.ctx ≡ record l.fn.ctx { inner = l.ctx.inner; state = l.ctx.state };
      planned : IfSome l.plans (ArePlans w rest);
      told : with_output (nodes_output w rest l.fn.ctx.inherited l.ctx.state) l.ctx ≡ with_output (nodes_output w (expand_nodes (macro_env l.fn.ctx.style) (view_nodes l.nodes)) l.fn.ctx.inherited l.fn.ctx.state) l.fn.ctx;
      inside : sizes rest ≤ sizes (expand_nodes (macro_env l.fn.ctx.style) (view_nodes l.nodes));
    }

abbrev pub invariant-element::render_with_delimiter-loop-node : goal.invariant-element::render_with_delimiter-loop-node
invariant-element::render_with_delimiter-loop-node g l =
    let w = render_input g.T.EntryLike.answers l.fn.ctx in
    let rest = expand_nodes (macro_env l.fn.ctx.style) (view_nodes (drop l.node-index l.nodes)) in
    record {
      sound : l.fn.ctx.failed ≡ false;
      frame : l.ctx ≡ record l.fn.ctx { inner = l.ctx.inner; state = l.ctx.state };
      planned : IfSome l.plans (ArePlans w rest);
      told : with_output (delimited_output w rest l.fn.ctx.inherited l.first l.ctx.state) l.ctx ≡ with_output (delimited_output w (expand_nodes (macro_env l.fn.ctx.style) (view_nodes l.nodes)) l.fn.ctx.inherited true l.fn.ctx.state) l.fn.ctx;
      inside : sizes rest ≤ sizes (expand_nodes (macro_env l.fn.ctx.style) (view_nodes l.nodes));
    }

-- the rendering so far, with the remaining nodes up to the first that adds text, is that of all
abbrev pub invariant-names::rendered::render_until_text-loop-node : goal.invariant-names::rendered::render_until_text-loop-node
invariant-names::rendered::render_until_text-loop-node g l =
    let w = render_input g.T.EntryLike.answers l.fn.ctx in
    let rest = view_nodes (drop l.node-index l.nodes) in
    let all = view_nodes l.nodes in
    let in_place = expand_substitute_nodes (macro_env l.fn.ctx.style) (names_node l.original) in
    record {
      sound : l.fn.ctx.failed ≡ false;
      frame : l.ctx ≡ record l.fn.ctx { inner = l.ctx.inner; state = l.ctx.state };
      planned : IfSome l.plans (ArePlans w (expand_nodes (macro_env l.fn.ctx.style) rest));
      told : with_whole_output (output_until_text w (in_place rest) l.fn.ctx.inherited (render_output l.ctx.inner l.ctx.state)) l.ctx ≡ with_whole_output (output_until_text w (in_place all) l.fn.ctx.inherited (render_output l.fn.ctx.inner l.fn.ctx.state)) l.fn.ctx;
      inside : sizes (expand_nodes (macro_env l.fn.ctx.style) rest) ≤ sizes (expand_nodes (macro_env l.fn.ctx.style) all);
    }
