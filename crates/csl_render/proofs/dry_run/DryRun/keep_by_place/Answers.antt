use Rattle.std.proofs.Common.{ℕ, Some}
use Rattle.csl_context.specs.Context.{render_input}
use Rattle.csl_render.specs.declared.plan.NodeInfo.{NodeInfo}
use Rattle.csl_render.specs.DryRun.{IsCallInfo, nodes_at}
use Rattle.csl_render.specs.Plan.{state_for_dry_run}
use Rattle.csl_render.proofs.DryRuns.{learned, unchanged}
use Rattle.csl_render.proofs.dry_run.DryRun.keep_by_place.Goals as goal

pub invariant_of-self : goal.invariant_of-self
invariant_of-self g c =
    let now = c.self.inside.ctx.now in
    let right = λ (place : ℕ) (i : NodeInfo). IsCallInfo (render_input g.T.EntryLike.answers now) (state_for_dry_run c.self.inside.whole now.special now.state) (nodes_at now.style (Some place)) i in
    (c.self.invariant.0, learned right c.self.inside.by_place c.insert.new.self c.in-Some.place c.args.info c.in_ok-insert.ensures.updates c.self.invariant.1 (rw (c.in-Some.is, ← c.self.view_is) at c.requires))

pub invariant_of-self-in_err-insert : goal.invariant_of-self-in_err-insert
invariant_of-self-in_err-insert g c =
    let now = c.self.inside.ctx.now in
    let right = λ (place : ℕ) (i : NodeInfo). IsCallInfo (render_input g.T.EntryLike.answers now) (state_for_dry_run c.self.inside.whole now.special now.state) (nodes_at now.style (Some place)) i in
    (c.self.invariant.0, unchanged right c.self.inside.by_place c.insert.new.self c.in_err-insert.ensures.err c.self.invariant.1)
