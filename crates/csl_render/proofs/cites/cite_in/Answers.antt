use Rattle.std.proofs.Common.{◌≡◌, None, Some, IfOk, subst}
use Rattle.csl_elements.specs.declared.element.Layout.{Layout}
use Rattle.csl_style.specs.declared.style.settings.Scope.TheVariants.{Citation}
use Rattle.csl_context.specs.declared.context.Rendered.{Rendered}
use Rattle.csl_entry.specs.Cite.{cite_state}
use Rattle.csl_nodes.specs.Text.{RenderOutput}
use Rattle.csl_render.specs.Cites.{new_cite}
use Rattle.csl_render.specs.Pair.{output_of}
use Rattle.csl_render.proofs.Theorems.{untold_others}
use Rattle.csl_render.proofs.cites.cite_in.Goals as goal

pub returns-clause-alone : goal.returns-clause-alone
returns-clause-alone g c v is others agree =
    let style = c.args.style.now in
    let cite = cite_state c.args.cite_props.now in
    let a = g.T.EntryLike.answers c.args.entry.now in
    let own = subst (λ (l : Layout). IfOk c.render_new.result (λ (r : Rendered). output_of r ≡ new_cite style Citation cite None (Some c.args.form) a l)) c.citation-layout.ensures c.render_new.ensures.ok in
    subst (λ (m : RenderOutput). IfOk c.render_new.result (λ (r : Rendered). output_of r ≡ m)) (untold_others style cite c.args.form v a others is agree) own
