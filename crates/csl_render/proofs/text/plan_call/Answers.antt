use Rattle.std.proofs.Common.{false, [], ap, subst, ◌∙◌}
use Rattle.csl_elements.specs.Node.{expand_nodes, expanded_macro}
use Rattle.csl_elements.specs.View.{view_nodes}
use Rattle.csl_style.specs.Expanded.{macro_env}
use Rattle.csl_context.specs.Context.{render_input}
use Rattle.csl_nodes.specs.Usage.{without_group_flag, macro_info}
use Rattle.csl_render.specs.DryRun.{Adds, Run, dry_of}
use Rattle.csl_render.specs.Plan.{dry_now, IsInfo, IsInfoOfNodes}
use Rattle.csl_render.proofs.Counted.{macro_counts}
use Rattle.csl_render.proofs.Plans.{adds_as, asked, around}
use Rattle.csl_render.proofs.text.plan_call.Goals as goal

pub returns : goal.returns
returns g c d =
    let now = c.args.ctx.now in
    let answers = g.T.EntryLike.answers in
    let w = render_input answers now in
    let at = dry_now now in
    let ns = view_nodes c.args.nodes.now in
    let fs = expand_nodes (macro_env now.style) ns in
    let f = expanded_macro fs d in
    let nodes = c.in_ok-info.info in
    let call = c.with_flags-call in
    let start : Run g.row.T.Denot = record { now = now; whole = false; items = [] } in
    let end = c.nodes_info.new.run in
    let found = subst (λ r. Adds (IsInfoOfNodes (render_input answers r.now) (dry_of r) (expand_nodes (macro_env r.now.style) ns) nodes) r end) c.for_plan-run.ensures c.in_ok-info.ensures in
    let called = adds_as (IsInfoOfNodes w at fs nodes) (IsInfo w at f call.result) start end (λ is h. around w at nodes call.result call.ensures.read call.ensures.author fs (λ i. macro_info (without_group_flag i)) is macro_counts h (call.ensures.answer ∙ c.of_macro.ensures)) found in
    asked answers now f call.result end c.into_plan.result called c.into_plan.ensures.at c.into_plan.ensures.flags c.into_plan.ensures.author c.into_plan.ensures.branch c.into_plan.ensures.inside
