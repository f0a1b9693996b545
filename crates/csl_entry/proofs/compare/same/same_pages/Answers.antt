use Rattle.std.proofs.Common.{sym, ◌∙◌}
use Rattle.csl_entry.proofs.AnswersEqual.{pages_decide}
use Rattle.csl_entry.proofs.compare.same.same_pages.Goals as goal

pub returns : goal.returns
returns c = let d = pages_decide c.args.pages.now c.args.others.now in (λ t. d.0 (sym c.eq.ensures ∙ t), λ h. c.eq.ensures ∙ d.1 h)
