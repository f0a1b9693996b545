use Rattle.std.proofs.Common.{sym, ◌∙◌}
use Rattle.csl_context.specs.Context.{render_input}
use Rattle.csl_render.specs.Plan.{state_for_dry_run}
use Rattle.csl_render.proofs.DryRuns.{listed_here}
use Rattle.csl_render.proofs.dry_run.DryRun.call_by_name.Goals as goal

pub returns-then-eq : goal.returns-then-eq
returns-then-eq g c =
    let now = c.self.inside.ctx.now in
    let w = render_input g.T.EntryLike.answers now in
    rw (← c.self.view_is) (listed_here w (state_for_dry_run c.self.inside.whole now.special now.state) c.self.inside.by_name.items c.deref-call-items.result.now c.loop-call.call-index _ c.args.name.now c.deref-call-items.ensures.value c.loop-call-test.true c.self.invariant.0 (sym c.eq.ensures ∙ c.if-eq.true))
