-- The context after the calls that render a substitute, one after another.
use Rattle.std.proofs.Common.{◌≡◌, Bool, true, [], refl}
use Rattle.csl_elements.specs.NamesOptions.{PartialOptions}
use Rattle.csl_elements.specs.Names.{NamesNode}
use Rattle.csl_elements.specs.Node.{Nodes, expand_substitute_nodes}
use Rattle.csl_style.specs.Expanded.{macro_env}
use Rattle.csl_tree.specs.declared.formatting.Formatting.{Formatting}
use Rattle.csl_tree.specs.Content.{elem_content}
use Rattle.csl_entry.specs.Answers.{Answers}
use Rattle.csl_context.specs.Context.{ContextView, render_input, with_part, close_part_by, in_format, with_inherited_format, with_options, without_options, with_switch}
use Rattle.csl_names.specs.NamesNode.{lists_meta}
use Rattle.csl_names.specs.NamesLists.{PersonLists}
use Rattle.csl_nodes.specs.Text.{render_output, with_output}
use Rattle.csl_render.specs.Names.{in_substitute, suppressing_from, boxed_substitute}
use Rattle.csl_render.specs.Render.{with_whole_output}
use Rattle.csl_render.specs.Tree.{output_until_text}

module _ {T : Type 0} (answers : T → Answers) (ls : PersonLists) (ns : Nodes) where
  -- the context after the children of a substitute
  abbrev pub with_tries : NamesNode → ContextView T → ContextView T
  with_tries n now = with_whole_output (output_until_text (render_input answers now) (expand_substitute_nodes (macro_env now.style) n ns) now.inherited (render_output now.inner now.state)) now

  abbrev pub substituted_by : PartialOptions → NamesNode → Bool → Formatting → ContextView T → ContextView T
  substituted_by options n suppressing outer now =
      without_options (with_inherited_format outer (with_switch suppressing
      (close_part_by (λ _ c. elem_content n.dressing.display (lists_meta ls) c)
      (with_tries n (with_part (with_switch true (in_format n.dressing.formatting (with_options options now))))))))

  pub substituted : (n : NamesNode) (now : ContextView T) → substituted_by n.options n now.state.suppressing now.inherited.formatting now ≡ with_output (boxed_substitute n ls (output_until_text (render_input answers now) (expand_substitute_nodes (macro_env now.style) n ns) (in_substitute n now.inherited) (render_output [] (suppressing_from now.state))) now.state) now
  substituted n now = refl
