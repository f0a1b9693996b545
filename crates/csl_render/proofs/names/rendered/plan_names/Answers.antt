use Rattle.std.proofs.Common.{ap, subst, ◌∙◌}
use Rattle.csl_elements.specs.Node.{expand}
use Rattle.csl_elements.specs.View.{view_names}
use Rattle.csl_style.specs.Expanded.{macro_env}
use Rattle.csl_context.specs.Context.{render_input}
use Rattle.csl_render.specs.DryRun.{Adds, dry_of}
use Rattle.csl_render.specs.Plan.{IsInfo}
use Rattle.csl_render.proofs.Plans.{asked}
use Rattle.csl_render.proofs.names.rendered.plan_names.Goals as goal

pub returns : goal.returns
returns g c =
    let now = c.args.ctx.now in
    let answers = g.T.EntryLike.answers in
    let n = view_names c.args.names.now in
    let end = c.node_info.new.run in
    let found = subst (λ r. Adds (IsInfo (render_input answers r.now) (dry_of r) (expand (macro_env r.now.style) n) c.in_ok-info.info) r end) c.for_plan-run.ensures c.in_ok-info.ensures in
    asked answers now (expand (macro_env now.style) n) c.in_ok-info.info end c.into_plan.result found c.into_plan.ensures.at c.into_plan.ensures.flags c.into_plan.ensures.author c.into_plan.ensures.branch c.into_plan.ensures.inside
