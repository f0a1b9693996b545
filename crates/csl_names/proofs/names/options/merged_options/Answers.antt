use Rattle.std.proofs.Common.{false, true, codes, unwrap_or, ap, ◌∙◌}
use Rattle.csl_elements.specs.declared.names.NameForm.TheVariants.{Long}
use Rattle.csl_elements.specs.declared.names.DelimiterBehavior.TheVariants.{Contextual}
use Rattle.csl_elements.proofs.Options.{map-unwrap}
use Rattle.csl_names.proofs.names.options.merged_options.Goals as goal

pub returns : goal.returns
returns c = λ i. record {
  and = c.first_set.ensures i;
  delimiter = (ap (λ t. t.now) c.unwrap_or.ensures ∙ map-unwrap (λ t. t.now) c.first_text.result _ ∙ ap (λ o. unwrap_or o (codes ", ")) c.first_text.ensures) i;
  delimiter_precedes_et_al = (c.unwrap_or-2.ensures ∙ ap (λ o. unwrap_or o Contextual) c.first_set-2.ensures) i;
  delimiter_precedes_last = (c.unwrap_or-3.ensures ∙ ap (λ o. unwrap_or o Contextual) c.first_set-3.ensures) i;
  et_al_min = c.first_set-4.ensures i;
  et_al_use_first = c.first_set-5.ensures i;
  et_al_subsequent_min = c.first_set-6.ensures i;
  et_al_subsequent_use_first = c.first_set-7.ensures i;
  et_al_use_last = (c.unwrap_or-4.ensures ∙ ap (λ o. unwrap_or o false) c.first_set-8.ensures) i;
  form = (c.unwrap_or-5.ensures ∙ ap (λ o. unwrap_or o Long) c.first_set-9.ensures) i;
  initialize = (c.unwrap_or-6.ensures ∙ ap (λ o. unwrap_or o true) c.first_set-10.ensures) i;
  initialize_with = c.first_text-2.ensures i;
  name_as_sort_order = c.first_set-11.ensures i;
  sort_separator = (ap (λ t. t.now) c.unwrap_or-7.ensures ∙ map-unwrap (λ t. t.now) c.first_text-3.result _ ∙ ap (λ o. unwrap_or o (codes ", ")) c.first_text-3.ensures) i;
}
