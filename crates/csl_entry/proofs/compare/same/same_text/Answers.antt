use Rattle.std.proofs.Common.{sym, ◌∙◌}
use Rattle.csl_entry.proofs.AnswersEqual.{texts_decide}
use Rattle.csl_entry.proofs.compare.same.same_text.Goals as goal

pub returns : goal.returns
returns c = let d = texts_decide c.args.text.now c.args.other.now in (λ t. d.0 (sym c.eq.ensures ∙ t), λ h. c.eq.ensures ∙ d.1 h)
