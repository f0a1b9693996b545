use Rattle.std.proofs.Common.{◌≡◌, None, Some, sym, ap, subst, ◌∙◌}
use Rattle.std.specs.Prelude.{IfSome}
use Rattle.std.specs.Option.{option_copied}
use Rattle.csl_style.specs.declared.style.settings.Scope.TheVariants.{Bibliography}
use Rattle.csl_entry.specs.Cite.{cite_state}
use Rattle.csl_nodes.specs.Text.{RenderOutput}
use Rattle.csl_render.specs.Cites.{whole_cite, named_by, HoldsForAlike}
use Rattle.csl_render.specs.Pair.{output_of}
use Rattle.csl_render.proofs.Theorems.{answers_decide}
use Rattle.csl.specs.Renderer.{RendererView}
use Rattle.csl.proofs.renderer.Renderer.bibliography_entry.Goals as goal

pub returns-clause-decided : goal.returns-clause-decided
returns-clause-decided g c =
    let style = c.args.self.now.style in
    let a = g.T.EntryLike.answers c.args.entry.now in
    let cite = cite_state c.args.cite_props.now in
    let layout = c.in-Some.layout.now in
    let found : style.bibliography ≡ Some layout = sym (ap (λ (r : RendererView). r.style.bibliography) c.self.view_is) ∙ sym c.bibliography.ensures ∙ ap option_copied c.in-Some.is in
    subst (λ o. IfSome o (λ l. HoldsForAlike (named_by style l) a (λ others. Some (output_of c.in_ok-rendered.rendered) ≡ Some (whole_cite style Bibliography cite others l)))) (sym found)
    (λ others alike. ap (λ (m : RenderOutput). Some m) (c.in_ok-rendered.ensures.ok ∙ answers_decide style Bibliography cite None None layout a others alike))
