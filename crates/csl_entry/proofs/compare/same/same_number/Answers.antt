use Rattle.std.proofs.Common.{sym, ◌∙◌}
use Rattle.csl_entry.proofs.AnswersEqual.{numbers_decide}
use Rattle.csl_entry.proofs.compare.same.same_number.Goals as goal

pub returns : goal.returns
returns c = let d = numbers_decide c.args.number.now c.args.other.now in (λ t. d.0 (sym c.eq.ensures ∙ t), λ h. c.eq.ensures ∙ d.1 h)
