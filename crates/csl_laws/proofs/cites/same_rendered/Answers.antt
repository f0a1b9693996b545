use Rattle.std.proofs.Common.{sym, ◌∙◌}
use Rattle.csl_context.proofs.StateEqual.{renderings_decide}
use Rattle.csl_laws.proofs.cites.same_rendered.Goals as goal

pub returns : goal.returns
returns c = let d = renderings_decide c.args.a.now c.args.b.now c.len-length.ensures.ordered c.len-other.ensures.ordered in (λ t. d.0 (sym c.eq.ensures ∙ t), λ h. c.eq.ensures ∙ d.1 h)
