use Rattle.std.proofs.Common.{◌≡◌, None, Some, IfOk, ap, subst, ◌∙◌}
use Rattle.csl_elements.specs.declared.element.Layout.{Layout}
use Rattle.csl_style.specs.declared.style.settings.Scope.TheVariants.{Citation}
use Rattle.csl_context.specs.declared.context.Rendered.{Rendered}
use Rattle.csl_entry.specs.Cite.{cite_state}
use Rattle.csl_nodes.specs.Text.{RenderOutput}
use Rattle.csl_render.specs.Cites.{new_cite}
use Rattle.csl_render.specs.Pair.{output_of}
use Rattle.csl_render.proofs.Theorems.{untold_others}
use Rattle.csl.specs.Renderer.{RendererView}
use Rattle.csl.proofs.renderer.Renderer.cite_in.Goals as goal

pub returns-clause-alone : goal.returns-clause-alone
returns-clause-alone g c v is others agree =
    let style = c.args.self.now.style in
    let cite = cite_state c.args.cite_props.now in
    let a = g.T.EntryLike.answers c.args.entry.now in
    let layout : c.citation-layout.result.now ≡ style.citation = c.citation-layout.ensures ∙ ap (λ (r : RendererView). r.style.citation) c.self.view_is in
    let own = subst (λ (l : Layout). IfOk c.render.result (λ (r : Rendered). output_of r ≡ new_cite style Citation cite None (Some c.args.form) a l)) layout c.render.ensures.ok in
    subst (λ (m : RenderOutput). IfOk c.render.result (λ (r : Rendered). output_of r ≡ m)) (untold_others style cite c.args.form v a others is agree) own
