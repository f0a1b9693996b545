-- A layout *prints* a cite from the state that another rendering left (CSL 1.0.2, Layout): the
-- content and the state of the cite from that state, and the HTML of the content. Two entries, of
-- one type or of two, are *alike* for a layout if they answer alike on all that it and the macros
-- it reaches name. The layout then prints the same for both, in one style and cite and from one
-- state: content, state and HTML. It may print the same for entries that are not alike, because
-- both forms of a title are compared and every branch counts, chosen or not. What the state suppresses
-- is not asked of an entry, so they may differ there (Substitute).
use Rattle.std.specs.Prelude.{◌≡◌, ℕ, Bool, true, not, List, Option}
use Rattle.csl_elements.specs.declared.element.Layout.{Layout}
use Rattle.csl_style.specs.declared.style.settings.Scope.{Scope}
use Rattle.csl_elements.specs.NamedSet.{NamedItem, a_variable, a_kind, NamedSet}
use Rattle.csl_elements.specs.Node.{expand_layout}
use Rattle.csl_style.specs.Style.{StyleParts}
use Rattle.csl_elements.specs.View.{view_layout}
use Rattle.csl_style.specs.Expanded.{macro_env}
use Rattle.csl_tree.specs.Tokens.{tokens}
use Rattle.csl_tree.specs.Write.{text_in_format}
use Rattle.csl_tree.specs.declared.elem.BufWriteFormat.TheVariants.{Html}
use Rattle.csl_entry.specs.Alike.{SameAnswer}
use Rattle.csl_entry.specs.Answers.{Answers}
use Rattle.csl_entry.specs.Cite.{CiteState}
use Rattle.csl_entry.specs.declared.citation.cite.Sorting.{Sorting}
use Rattle.csl_entry.specs.declared.citation.cite.SpecialForm.{SpecialForm}
use Rattle.csl_context.specs.declared.context.Rendered.{Rendered}
use Rattle.csl_context.specs.State.{left_state_view, State, is_suppressed}
use Rattle.csl_context.specs.Context.{base_inherited}
use Rattle.csl_context.specs.RenderInput.{RenderInput}
use Rattle.csl_nodes.specs.Text.{RenderOutput, render_output}
use Rattle.csl_render.specs.Tree.{layout_output}

-- the input of a cite of an entry with these answers
abbrev pub cite_input : StyleParts → Scope → CiteState → Option Sorting → Option SpecialForm → Answers → RenderInput
cite_input style scope cite sorting special answers = record {
  style = style;
  scope = scope;
  instance = record { answers = answers; cite = cite; sorting = sorting; special = special };
}

-- the input of a cite with the answers of another entry
abbrev pub with_answers : Answers → RenderInput → RenderInput
with_answers answers w = record w { instance = record w.instance { answers = answers } }

abbrev pub layout_output_from : State → RenderInput → Layout → RenderOutput
layout_output_from s w l = layout_output w (expand_layout (macro_env w.style) (view_layout l)) (base_inherited w.style w.scope) s

-- the content and the state of a finished rendering
abbrev pub output_of : Rendered → RenderOutput
output_of r = render_output (tokens r.content) (left_state_view r.state)

-- `r` has the content and the state `m`, and `bytes` are its HTML
pub record Prints (m : RenderOutput) (r : Rendered) (bytes : List ℕ) : Type 0 where
  pub rendering : output_of r ≡ m
  pub html : bytes ≡ text_in_format Html m.content

-- two renderings with equal content, state and HTML
pub record PrintsSame (r : Rendered) (bytes : List ℕ) (other : Rendered) (others : List ℕ) : Type 0 where
  pub rendering : output_of r ≡ output_of other
  pub html : bytes ≡ others

-- whether a state leaves a variable or a kind to be asked for
abbrev pub is_free : State → NamedItem → Bool
is_free s (a_variable v) = not (is_suppressed s v)
is_free s (a_kind k) = true

-- both answers agree on a set, but for what a state suppresses
abbrev pub AgreeButForSuppressed : State → NamedSet → Answers → Answers → Type 0
AgreeButForSuppressed s names a b = (item : NamedItem) → names item ≡ true → is_free s item ≡ true → SameAnswer a b item
