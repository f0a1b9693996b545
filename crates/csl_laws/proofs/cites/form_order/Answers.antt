use Rattle.std.proofs.Common.{◌≡◌, ◌∙◌, rules}
use Rattle.csl_entry.specs.NameForm.{form_cmp}
use Rattle.csl_entry.specs.declared.forms.name_form.DisambiguatedNameForm.{DisambiguatedNameForm}
use Rattle.csl_entry.specs.contracts.forms.name_form.DisambiguatedNameFormOrd.TheImpl.{cmp-value as cmp_form}
use Rattle.csl_laws.proofs.cites.form_order.Goals as goal

by_place : (a b : DisambiguatedNameForm) → cmp_form.it a b ≡ form_cmp a b
by_place a b = search rules

pub returns : goal.returns
returns c = c.cmp.ensures ∙ by_place c.args.a c.args.b
