use Rattle.csl_context.specs.Context.{render_input}
use Rattle.csl_render.specs.Plan.{dry_view}
use Rattle.csl_render.proofs.Plans.{unplanned}
use Rattle.csl_render.proofs.plan.ListPlan.next.Goals as goal

pub returns-in_err-first-clause-rest : goal.returns-in_err-first-clause-rest
returns-in_err-first-clause-rest g c f fs h = unplanned (render_input g.T.EntryLike.answers c.args.ctx.now) (dry_view c.args.self.now.at.now) fs c.args.self.now.items.now c.in_err-first.ensures.cases
