use Rattle.std.proofs.Common.{ap, ◌∙◌}
use Rattle.csl_context.proofs.context.Context.is_suppressed.Goals as goal

pub returns : goal.returns
returns g c = c.contains.ensures ∙ ap (λ now. now.state.suppressed c.args.variable) c.self.view_is
