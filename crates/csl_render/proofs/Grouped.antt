-- The context after the calls that render a group, one after another.
use Rattle.std.proofs.Common.{ℕ, Bool, true, List, Option, None}
use Rattle.csl_elements.specs.declared.formatting.Display.{Display}
use Rattle.csl_elements.specs.Node.{Nodes, expand_nodes}
use Rattle.csl_style.specs.Expanded.{macro_env}
use Rattle.csl_tree.specs.Content.{elem_content}
use Rattle.csl_entry.specs.Answers.{Answers}
use Rattle.csl_context.specs.Bodies.{BodyAttributes, values_before, with_open_body, with_closed_body}
use Rattle.csl_context.specs.Context.{ContextView, render_input, with_part, close_part_by, with_inherited_delimiter}
use Rattle.csl_render.specs.Tree.{shown_if, delimited_output}
use Rattle.csl_nodes.specs.Text.{with_output}

module _ {T : Type 0} (answers : T → Answers) where
  -- the context after the children of a group
  abbrev pub with_children : Nodes → ContextView T → ContextView T
  with_children ns now = with_output (delimited_output (render_input answers now) (expand_nodes (macro_env now.style) ns) now.inherited true now.state) now

  -- the context after the children, with the group's delimiter between them
  abbrev pub with_delimited : Option (List ℕ) → Nodes → ContextView T → ContextView T
  with_delimited delimiter ns now = with_inherited_delimiter now.inherited.delimiter (with_children ns (with_inherited_delimiter delimiter now))

  abbrev pub grouped_by : BodyAttributes → Option Display → Bool → Option (List ℕ) → Nodes → ContextView T → ContextView T
  grouped_by d display shows delimiter ns now =
      close_part_by (λ _ c. shown_if shows (elem_content display None c))
      (with_closed_body d (values_before now.inherited) (with_delimited delimiter ns (with_open_body d (with_part now))))
