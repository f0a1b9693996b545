-- The content and the state of a cite in a new context (CSL 1.0.2, Citation; Bibliography; Layout).
-- The cite is whole and not for a sort key (`whole_cite`). The citation layout of a style renders
-- it for a note or a text. The bibliography layout, if there is one, renders it for the
-- bibliography. A first cite without disambiguation has a definition of its own for its content
-- (`cite_content`). A cite in a special form is rendered by the citation layout too, and is not for
-- a sort key (`special_cite`). A sort key is the plain text of a whole cite by any layout, rendered
-- for sorting in the citation or in the bibliography (Sorting; `sort_key_text`). What a layout names
-- decides each of them: all answers that agree on that give the same (`HoldsForAlike`).
use Rattle.std.specs.Prelude.{ℕ, ◌≡◌, ◌≢◌, true, List, Option, None, Some}
use Rattle.csl_elements.specs.declared.element.Layout.{Layout}
use Rattle.csl_elements.specs.NamedSet.{NamedItem, a_variable, NamedSet}
use Rattle.csl_elements.specs.Node.{expand_layout}
use Rattle.csl_elements.specs.View.{view_layout}
use Rattle.csl_style.specs.declared.style.settings.Scope.{Scope}
use Rattle.csl_style.specs.declared.style.settings.Scope.TheVariants.{Citation}
use Rattle.csl_style.specs.Expanded.{macro_env}
use Rattle.csl_style.specs.Named.{named_in_nodes}
use Rattle.csl_style.specs.Style.{StyleParts}
use Rattle.csl_tree.specs.Tokens.{Token}
use Rattle.csl_tree.specs.Write.{plain_text}
use Rattle.csl_entry.specs.Alike.{SameAnswer, SameNamedAnswers}
use Rattle.csl_entry.specs.Answers.{Answers}
use Rattle.csl_entry.specs.Cite.{CiteState, first_cite, no_disambiguation}
use Rattle.csl_entry.specs.declared.citation.cite.Sorting.{Sorting}
use Rattle.csl_entry.specs.declared.citation.cite.SpecialForm.{SpecialForm}
use Rattle.csl_context.specs.Context.{initial_state}
use Rattle.csl_nodes.specs.Text.{RenderOutput}
use Rattle.csl_render.specs.Names.{author}
use Rattle.csl_render.specs.Pair.{cite_input, layout_output_from}

-- the content and the state of a cite by a layout, in a new context
abbrev pub new_cite : StyleParts → Scope → CiteState → Option Sorting → Option SpecialForm → Answers → Layout → RenderOutput
new_cite style scope cite sorting special answers layout = layout_output_from initial_state (cite_input style scope cite sorting special answers) layout

-- the content and the state of a whole cite by a layout
abbrev pub whole_cite : StyleParts → Scope → CiteState → Answers → Layout → RenderOutput
whole_cite style scope cite answers layout = new_cite style scope cite None None answers layout

-- the content of a first cite without disambiguation
abbrev pub cite_content : StyleParts → Answers → List Token
cite_content style answers = (whole_cite style Citation (first_cite no_disambiguation) answers style.citation).content

-- the content and the state of a cite in a special form
abbrev pub special_cite : StyleParts → CiteState → SpecialForm → Answers → RenderOutput
special_cite style cite form answers = new_cite style Citation cite None (Some form) answers style.citation

-- the text by which an entry is sorted
abbrev pub sort_key_text : StyleParts → Scope → CiteState → Sorting → Answers → Layout → List ℕ
sort_key_text style scope cite sorting answers key = plain_text (new_cite style scope cite (Some sorting) None answers key).content

-- what a layout of a style names, in itself and in the macros that it reaches
abbrev pub named_by : StyleParts → Layout → NamedSet
named_by style layout = named_in_nodes (expand_layout (macro_env style) (view_layout layout)).elements

-- it holds for all answers that agree with these on a set
abbrev pub HoldsForAlike : NamedSet → Answers → (Answers → Type 0) → Type 0
HoldsForAlike names a Holds = (others : Answers) → SameNamedAnswers names a others → Holds others

-- both answers agree on a set, but for the authors
abbrev pub AgreeButForAuthors : NamedSet → Answers → Answers → Type 0
AgreeButForAuthors names a b = (item : NamedItem) → names item ≡ true → item ≢ a_variable author → SameAnswer a b item

-- a set has all that another has
abbrev pub Covers : NamedSet → NamedSet → Type 0
Covers set part = (item : NamedItem) → part item ≡ true → set item ≡ true
