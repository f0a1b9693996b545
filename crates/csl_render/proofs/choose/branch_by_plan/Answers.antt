use Rattle.csl_style.specs.Expanded.{macro_env}
use Rattle.csl_context.specs.Context.{render_input}
use Rattle.csl_render.proofs.Chosen.{if_taken}
use Rattle.csl_render.proofs.choose.branch_by_plan.Goals as goal

pub returns-in-None : goal.returns-in-None
returns-in-None g c =
    let now = c.args.ctx.now in
    if_taken (render_input g.T.EntryLike.answers now) now.state (macro_env now.style) c.args.choose.now c.branch_taken.result c.branch_taken.ensures
