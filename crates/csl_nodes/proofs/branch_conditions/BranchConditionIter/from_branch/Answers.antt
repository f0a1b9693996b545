use Rattle.csl_context.specs.Context.{render_input}
use Rattle.csl_nodes.proofs.Readings.{all_left}
use Rattle.csl_nodes.proofs.branch_conditions.BranchConditionIter.from_branch.Goals as goal

pub returns-clause-left : goal.returns-clause-left
returns-clause-left g c = all_left (render_input g.T.EntryLike.answers c.args.ctx.now) c.args.ctx.now.state c.args.branch.now
