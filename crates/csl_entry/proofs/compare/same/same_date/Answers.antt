use Rattle.std.proofs.Common.{sym, ◌∙◌}
use Rattle.csl_entry.proofs.AnswersEqual.{dates_decide}
use Rattle.csl_entry.proofs.compare.same.same_date.Goals as goal

pub returns : goal.returns
returns c = let d = dates_decide c.as_deref.result c.as_deref-2.result c.args.date.now c.args.other.now c.as_deref.ensures c.as_deref-2.ensures in (λ t. d.0 (sym c.eq.ensures ∙ t), λ h. c.eq.ensures ∙ d.1 h)
