use Rattle.csl_entry.specs.declared.forms.name_form.DisambiguatedNameForm.TheVariants.{Count}
use Rattle.csl_laws.proofs.calls.count_form.Goals as goal

pub returns : goal.returns
returns c = rw c.in_ok-form.was at (c.get_form_mut.follows.holds Count)
