use Rattle.std.proofs.Common.{◌≡◌, ◌+◌, ◌*◌, ◌≤◌, drop}
use Rattle.csl_elements.specs.Node.{size, sizes, expanded_substitutes_size, expand, expand_nodes}
use Rattle.csl_elements.specs.View.{view_node, view_text, view_group, view_choose, view_names, view_nodes}
use Rattle.csl_style.specs.Expanded.{macro_env}
use Rattle.csl_context.specs.Context.{render_input}
use Rattle.csl_render.specs.Names.{expanded_substitutes_of}
use Rattle.csl_render.specs.Tree.{any_shows}
use Rattle.csl_render.proofs.+shows.Given as goal

abbrev pub decreases-element::LayoutRenderingElementNode::node_shows : goal.decreases-element::LayoutRenderingElementNode::node_shows
decreases-element::LayoutRenderingElementNode::node_shows g l = 2 * size (expand (macro_env l.query.now.now.style) (view_node l.self.now)) + 1

abbrev pub decreases-text::TextNode::node_shows : goal.decreases-text::TextNode::node_shows
decreases-text::TextNode::node_shows g l = 2 * size (expand (macro_env l.query.now.now.style) (view_text l.self.now))

abbrev pub decreases-text::call_shows : goal.decreases-text::call_shows
decreases-text::call_shows g l = 2 * sizes (expand_nodes (macro_env l.query.now.now.style) (view_nodes l.nodes.now)) + 1

abbrev pub decreases-group::GroupNode::node_shows : goal.decreases-group::GroupNode::node_shows
decreases-group::GroupNode::node_shows g l = 2 * size (expand (macro_env l.query.now.now.style) (view_group l.self.now))

abbrev pub decreases-choose::ChooseNode::node_shows : goal.decreases-choose::ChooseNode::node_shows
decreases-choose::ChooseNode::node_shows g l = 2 * size (expand (macro_env l.query.now.now.style) (view_choose l.self.now))

abbrev pub decreases-names::NamesNode::node_shows : goal.decreases-names::NamesNode::node_shows
decreases-names::NamesNode::node_shows g l = 2 * size (expand (macro_env l.query.now.now.style) (view_names l.self.now))

abbrev pub decreases-names::names_or_substitute_show : goal.decreases-names::names_or_substitute_show
decreases-names::names_or_substitute_show g l = 2 * expanded_substitutes_size (expanded_substitutes_of (macro_env l.query.now.now.style) l.names.now) + 1

abbrev pub decreases-element::any_shows : goal.decreases-element::any_shows
decreases-element::any_shows g l = 2 * sizes (expand_nodes (macro_env l.query.now.now.style) (view_nodes l.nodes.now))

-- the result for the remaining nodes is that for all
abbrev pub invariant-element::any_shows-loop-node : goal.invariant-element::any_shows-loop-node
invariant-element::any_shows-loop-node g l =
    let w = render_input g.T.EntryLike.answers l.fn.query.now in
    let e = macro_env l.fn.query.now.style in
    let rest = expand_nodes e (view_nodes (drop l.node-index l.nodes)) in
    record {
      kept : l.query ≡ l.fn.query;
      told : any_shows w l.fn.query.now.state l.fn.query.variable rest ≡ any_shows w l.fn.query.now.state l.fn.query.variable (expand_nodes e (view_nodes l.nodes));
      inside : sizes rest ≤ sizes (expand_nodes e (view_nodes l.nodes));
    }
