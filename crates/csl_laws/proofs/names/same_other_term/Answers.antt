use Rattle.std.proofs.Common.{sym, ◌∙◌}
use Rattle.csl_elements.proofs.Terms.{other_decides}
use Rattle.csl_laws.proofs.names.same_other_term.Goals as goal

pub returns : goal.returns
returns c = let d = other_decides c.args.a.now c.args.b.now in (λ t. d.0 (sym c.eq.ensures ∙ t), λ h. c.eq.ensures ∙ d.1 h)
