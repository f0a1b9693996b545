-- The context after the calls that render a text that calls a macro, one after another.
use Rattle.std.proofs.Common.{None}
use Rattle.csl_elements.specs.Dressing.{AffixTexts, TextDressing}
use Rattle.csl_elements.specs.Node.{Nodes, expand_nodes}
use Rattle.csl_style.specs.Expanded.{macro_env}
use Rattle.csl_tree.specs.Content.{elem_content}
use Rattle.csl_entry.specs.Answers.{Answers}
use Rattle.csl_context.specs.Bodies.{BodyAttributes, values_before, with_open_body, with_closed_body}
use Rattle.csl_context.specs.Context.{ContextView, render_input, with_part, close_part_by, with_inherited_delimiter}
use Rattle.csl_nodes.specs.Text.{with_output}
use Rattle.csl_render.specs.Tree.{nodes_output}

-- the attributes of the body of a text with these affixes
abbrev pub call_attributes : TextDressing → AffixTexts → BodyAttributes
call_attributes d a = record { formatting = d.dressing.formatting; affixes = a; quotes = d.quotes; strip_periods = d.strip_periods }

module _ {T : Type 0} (answers : T → Answers) where
  -- the context after the nodes of a macro
  abbrev pub with_nodes : Nodes → ContextView T → ContextView T
  with_nodes ns now = with_output (nodes_output (render_input answers now) (expand_nodes (macro_env now.style) ns) now.inherited now.state) now

  -- the context after the nodes of a macro, which inherit no delimiter
  abbrev pub with_undelimited : Nodes → ContextView T → ContextView T
  with_undelimited ns now = with_inherited_delimiter now.inherited.delimiter (with_nodes ns (with_inherited_delimiter None now))

  abbrev pub called_by : TextDressing → Nodes → AffixTexts → ContextView T → ContextView T
  called_by d ns a now =
      close_part_by (λ _ c. elem_content d.dressing.display None c)
      (with_closed_body (call_attributes d a) (values_before now.inherited) (with_undelimited ns (with_open_body (call_attributes d a) (with_part now))))
