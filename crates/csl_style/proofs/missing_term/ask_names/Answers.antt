use Rattle.csl_style.proofs.AskedTerms.{finds_both}
use Rattle.csl_style.proofs.missing_term.ask_names.Goals as goal

pub returns : goal.returns
returns c = finds_both _ _ _ _ _ _ (rw c.label_on.ensures at c.ask_names_label.ensures) (finds_both _ _ _ _ _ _ c.ask_and.ensures (finds_both _ _ _ _ _ _ (rw (c.long_form.ensures, c.et_al_term.ensures) at c.ask.ensures) (rw c.label_on-2.ensures at c.ask_names_label-2.ensures)))
