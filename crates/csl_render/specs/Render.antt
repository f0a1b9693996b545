-- A layout or a node (`Renderable`), and its three calls: dry run (`info_in`), shown variables
-- (`shows_in`) and content (`output_in`). A rendering appends the content to the innermost open
-- part of a context and updates the state. Nothing else in the context changes (`after_render`).
use Rattle.std.specs.Prelude.{Bool, if◌then◌else◌}
use Rattle.csl_elements.specs.declared.taxonomy.Variable.{Variable}
use Rattle.csl_elements.specs.Node.{Node, ExpandedNode, ExpandedLayout}
use Rattle.csl_elements.specs.Node as node
use Rattle.csl_style.specs.Style.{StyleParts}
use Rattle.csl_elements.specs.View as view
use Rattle.csl_style.specs.Expanded.{macro_env, expanded}
use Rattle.csl_entry.specs.Answers.{Answers}
use Rattle.csl_context.specs.State.{State, Inherited}
use Rattle.csl_context.specs.RenderInput.{RenderInput}
use Rattle.csl_context.specs.Context.{ContextView, render_input}
use Rattle.csl_nodes.specs.Usage.{Info, without_group_flag}
use Rattle.csl_nodes.specs.Text.{RenderOutput, with_output}
use Rattle.csl_render.specs.Tree.{info, nodes_info, shows, any_shows, node_output, delimited_child_output, layout_output}

-- a layout, or a node of one
pub data Renderable : Type 0 where
  of_layout : ExpandedLayout → Renderable
  of_node : ExpandedNode → Renderable

abbrev pub element_rendering : StyleParts → view.ElementView → Renderable
element_rendering style (view.of_layout l) = of_layout (node.expand_layout (macro_env style) l)
element_rendering style (view.of_node n) = of_node (node.expand (macro_env style) n)

abbrev pub info_in : RenderInput → State → Renderable → Info
info_in w s (of_layout l) = without_group_flag (nodes_info w s l.elements)
info_in w s (of_node f) = info w s f

abbrev pub shows_in : RenderInput → State → Variable → Renderable → Bool
shows_in w s v (of_layout l) = any_shows w s v l.elements
shows_in w s v (of_node f) = shows w s v f

abbrev pub output_in : RenderInput → Renderable → Inherited → State → RenderOutput
output_in w (of_layout l) inh s = layout_output w l inh s
output_in w (of_node f) inh s = node_output w f inh s

-- a context whose innermost open part and state are those of a rendering
abbrev pub with_whole_output : {T : Type 0} → RenderOutput → ContextView T → ContextView T
with_whole_output m now = record now { inner = m.content; state = m.state }

-- a context after a rendering: the innermost open part and the state change, and nothing else
abbrev pub after_render : {T : Type 0} → (T → Answers) → Renderable → ContextView T → ContextView T
after_render answers r now = with_output (output_in (render_input answers now) r now.inherited now.state) now

-- ---- a child of a list, with the delimiter between the children that print
module _ {T : Type 0} (answers : T → Answers) where
  abbrev pub prints_in : ContextView T → Node → Bool
  prints_in now n = (info (render_input answers now) now.state (expanded now.style n)).prints

  -- if it does not print, the context stays as it is
  abbrev pub after_child : Bool → Node → ContextView T → ContextView T
  after_child first n now =
      if prints_in now n
      then with_output (delimited_child_output first now.inherited (node_output (render_input answers now) (expanded now.style n) now.inherited now.state)) now
      else now
