use Rattle.std.proofs.Common.{◌≡◌, ℕ, Bool, Some}
use Rattle.csl_context.specs.Context.{render_input}
use Rattle.csl_render.specs.DryRun.{call_shows, nodes_at}
use Rattle.csl_render.proofs.DryRuns.{learned}
use Rattle.csl_render.proofs.query.Query.cache_call.Goals as goal

pub invariant_of-self : goal.invariant_of-self
invariant_of-self g c =
    let now = c.self.inside.ctx.now in
    let right = λ (place : ℕ) (b : Bool). b ≡ call_shows (render_input g.T.EntryLike.answers now) now.state c.self.inside.variable (nodes_at now.style (Some place)) in
    learned right c.self.inside.calls c.insert.new.self c.in-Some.place c.args.shows c.in_ok-insert.ensures.updates c.self.invariant (rw (c.in-Some.is, ← c.self.view_is) at c.requires)
