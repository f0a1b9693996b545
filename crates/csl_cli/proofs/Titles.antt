-- The cite of a title in the style of titles is the text of that title. The group of the style
-- prints if the title is not empty.
use Rattle.std.proofs.Common.{◌≡◌, ℕ, Bool, true, false, not, ◌==◌, List, [], ◌∷◌, ◌++◌, length, Some, None, refl, ap, ◌∙◌, if◌then◌else◌, arith}
use Rattle.std.proofs.lemmas.Grind.{common_steps}
use Rattle.std.specs.Prelude.{codes}
use Rattle.lit_model.specs.Text.{in_one_piece}
use Rattle.csl_style.specs.declared.style.settings.Scope.TheVariants.{Citation}
use Rattle.csl_elements.specs.Constructors.{texts_around}
use Rattle.csl_elements.specs.Dressing.{Dressing}
use Rattle.csl_elements.specs.NamesParts.{no_formatting}
use Rattle.csl_elements.specs.Node.{ExpandedNode, expand, LayoutNode, expand_layout}
use Rattle.csl_style.specs.Style.{StyleParts}
use Rattle.csl_style.specs.Expanded.{macro_env}
use Rattle.csl_tree.specs.Tokens.{Token}
use Rattle.csl_tree.specs.Write.{text_in_format}
use Rattle.csl_tree.specs.declared.elem.BufWriteFormat.{BufWriteFormat}
use Rattle.csl_tree.specs.declared.elem.BufWriteFormat.TheVariants.{Plain, Html}
use Rattle.csl_entry.specs.Cite.{first_cite, no_disambiguation}
use Rattle.csl_context.specs.Context.{base_inherited, initial_state}
use Rattle.csl_context.specs.State.{Inherited, with_node_formatting}
use Rattle.csl_context.specs.RenderInput.{RenderInput}
use Rattle.csl_nodes.specs.Usage.{should_render_group, Info, info_of, usage_flags, no_usage_flags, no_info, info_union, as_child_info}
use Rattle.csl_nodes.specs.Text.{RenderOutput, render_output, then_output}
use Rattle.csl_render.specs.Pair.{cite_input}
use Rattle.csl_render.specs.Tree.{delimited_child_output, group_output, in_group, layout_output, node_output}
use Rattle.csl_samples.specs.Nodes.{only_affixes}
use Rattle.csl_samples.specs.Title as built
use Rattle.csl_samples.specs.Title.{title_answers, title_layout}
use Rattle.csl_cli.specs.Content.{IsTitleContent, title_text}

-- the input of a first cite of a title
abbrev title_input : StyleParts → List ℕ → RenderInput
title_input style title =
    cite_input style Citation (first_cite no_disambiguation) None None (title_answers (Some (in_one_piece title)))

-- the content of the cite of a title, in a style with this layout
abbrev made_by : StyleParts → List ℕ → LayoutNode → List Token
made_by style title layout =
    (layout_output (title_input style title) (expand_layout (macro_env style) layout) (base_inherited style Citation) initial_state).content

not_empty : (b : ℕ) (bs : List ℕ) → (length (b ∷ bs) == 0) ≡ false
not_empty b bs = grind (arith, common_steps)

-- that content, for an empty title and for any other
module _ (style : StyleParts) (title : List ℕ) where
  abbrev in_world : RenderInput
  in_world = title_input style title

  abbrev label_node : ExpandedNode
  label_node = expand (macro_env style) built.label

  abbrev title_node : ExpandedNode
  title_node = expand (macro_env style) built.title_text

  abbrev group_dressing : Dressing
  group_dressing = only_affixes (texts_around (codes "(") (codes ")"))

  abbrev at_group : Inherited
  at_group = record (with_node_formatting no_formatting (base_inherited style Citation)) { delimiter = None }

  abbrev at_title : Inherited
  at_title = in_group (Some (codes ": ")) group_dressing at_group

  abbrev title_said : Bool → Info
  title_said empty = info_of (not empty) (usage_flags true (not empty) false false)

  abbrev label_made : RenderOutput
  label_made = node_output in_world label_node at_title initial_state

  abbrev title_made : RenderOutput
  title_made = node_output in_world title_node at_title label_made.state

  abbrev title_delimited : Bool → RenderOutput
  title_delimited empty =
      if (title_said empty).prints
      then then_output (delimited_child_output false at_title title_made).content (render_output [] title_made.state)
      else render_output [] label_made.state

  abbrev group_said : Bool → Info
  group_said empty = info_union (as_child_info false (info_of true no_usage_flags)) (info_union (as_child_info false (title_said empty)) no_info)

  abbrev by_emptiness : Bool → List Token
  by_emptiness empty =
      let group = group_output (should_render_group (group_said empty).flags) group_dressing at_group
      (then_output (delimited_child_output true at_title label_made).content (title_delimited empty)) in
      (then_output group.content (render_output [] group.state)).content

made_title : (style : StyleParts) (title : List ℕ) (format : BufWriteFormat) → text_in_format format (made_by style title title_layout) ≡ title_text title format
unfolding info_union
made_title style [] Plain = refl
made_title style [] Html = refl
made_title style (b ∷ bs) Plain = ap (λ e. text_in_format Plain (by_emptiness style (b ∷ bs) e)) (not_empty b (bs ++ []))
made_title style (b ∷ bs) Html = ap (λ e. text_in_format Html (by_emptiness style (b ∷ bs) e)) (not_empty b (bs ++ []))

pub title_is_written : (title : List ℕ) (content : List Token) (format : BufWriteFormat) → IsTitleContent title content → text_in_format format content ≡ title_text title format
title_is_written title content format (style, cites, is) =
    ap (text_in_format format) (is ∙ ap (made_by style title) cites.citation) ∙ made_title style title format
