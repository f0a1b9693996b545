use Rattle.std.proofs.Common.{sym, ◌∙◌}
use Rattle.csl_elements.proofs.Variables.{kind_ordered}
use Rattle.csl_laws.proofs.names.order_of_kinds.Goals as goal

pub returns : goal.returns
returns c = let d = kind_ordered c.args.a.now c.args.b.now in (λ t. d.0 (sym c.cmp.ensures ∙ t), λ h. c.cmp.ensures ∙ d.1 h)
