-- A layout has the same output for two entries that are alike for it.
use Rattle.std.proofs.Common.{◌≡◌, ◌↔◌, Bool, true, false, ℕ, List, refl, ap, sym, ◌∙◌}
use Rattle.csl_elements.specs.declared.element.Layout.{Layout}
use Rattle.csl_style.specs.Named.{named_in_nodes}
use Rattle.csl_elements.specs.Node.{expand_layout}
use Rattle.csl_elements.specs.View.{view_layout}
use Rattle.csl_style.specs.Expanded.{macro_env}
use Rattle.csl_tree.specs.Write.{text_in_format}
use Rattle.csl_tree.specs.declared.elem.BufWriteFormat.TheVariants.{Html}
use Rattle.csl_entry.specs.Alike.{SameNamedAnswers}
use Rattle.csl_entry.specs.Answers.{Answers}
use Rattle.csl_context.specs.declared.context.Rendered.{Rendered}
use Rattle.csl_context.specs.declared.error.RenderError.{RenderError}
use Rattle.csl_context.specs.declared.error.RenderError.TheVariants.{Memory, Failed}
use Rattle.csl_context.specs.Context.{ContextView, FailsAs, base_inherited}
use Rattle.csl_context.specs.State.{State}
use Rattle.csl_context.specs.RenderInput.{RenderInput}
use Rattle.csl_nodes.specs.Text.{RenderOutput}
use Rattle.csl_render.specs.Pair.{with_answers, layout_output_from, Prints, PrintsSame}
use Rattle.csl_render.proofs.AlikeNodes.{layout_alike}

-- a call fails only with `Memory` if the context has not failed before it
pub rendering_wants_memory : {T : Type 0} (e : RenderError) (old new : ContextView T) → FailsAs e old new → old.failed ≡ false → e ≡ Memory
rendering_wants_memory Memory old new h was_live = refl
rendering_wants_memory Failed old new h was_live = let had : old.failed ≡ true = h.0 in cc

pub end_wants_memory : (e : RenderError) (failed : Bool) → (e ≡ Failed) ↔ (failed ≡ true) → failed ≡ false → e ≡ Memory
end_wants_memory Memory failed h was_live = refl
end_wants_memory Failed failed h was_live = let had : failed ≡ true = h.0 refl in cc

-- what two renderings print is the same if their contents and states are
pub prints_same : (m n : RenderOutput) → m ≡ n → (r : Rendered) (html : List ℕ) (q : Rendered) (other : List ℕ) → Prints m r html → Prints n q other → PrintsSame r html q other
prints_same m n e r html q other one two = record {
  rendering = one.rendering ∙ e ∙ sym two.rendering;
  html = one.html ∙ ap (λ (k : RenderOutput). text_in_format Html k.content) e ∙ sym two.html;
}

module _ (s : State) (w : RenderInput) (l : Layout) (a b : Answers) (alike : SameNamedAnswers (named_in_nodes (expand_layout (macro_env w.style) (view_layout l)).elements) a b) where
  pub printed_alike : layout_output_from s (with_answers a w) l ≡ layout_output_from s (with_answers b w) l
  printed_alike = layout_alike a b w (expand_layout (macro_env w.style) (view_layout l)) (base_inherited w.style w.scope) s (λ q h free. alike q h)

  pub printed_same : (r : Rendered) (html : List ℕ) (q : Rendered) (other : List ℕ) → Prints (layout_output_from s (with_answers a w) l) r html → Prints (layout_output_from s (with_answers b w) l) q other → PrintsSame r html q other
  printed_same = prints_same (layout_output_from s (with_answers a w) l) (layout_output_from s (with_answers b w) l) printed_alike
