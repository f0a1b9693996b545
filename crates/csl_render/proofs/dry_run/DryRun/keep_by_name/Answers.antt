use Rattle.csl_style.specs.Expanded.{macro_env}
use Rattle.csl_context.specs.Context.{render_input}
use Rattle.csl_render.specs.DryRun.{IsCallInfo}
use Rattle.csl_render.specs.Plan.{state_for_dry_run}
use Rattle.csl_render.proofs.DryRuns.{listed_more}
use Rattle.csl_render.proofs.dry_run.DryRun.keep_by_name.Goals as goal

pub invariant_of-self-2 : goal.invariant_of-self-2
invariant_of-self-2 g c =
    let now = c.self.inside.ctx.now in
    let w = render_input g.T.EntryLike.answers now in
    let known : IsCallInfo w (state_for_dry_run c.self.inside.whole now.special now.state) (macro_env now.style c.args.name.now) c.args.info = rw (← c.self.view_is) at c.requires in
    (listed_more w (state_for_dry_run c.self.inside.whole now.special now.state) c.self.inside.by_name.items c.make_room_at.new.list.items c.push.new.self.items _ c.in_ok-push.ensures.items c.make_room_at.ensures c.self.invariant.0 known, c.self.invariant.1)
