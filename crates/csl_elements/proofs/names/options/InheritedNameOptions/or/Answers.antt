use Rattle.std.proofs.Common.{option_map, ap, ◌∙◌}
use Rattle.csl_elements.proofs.Options.{map-or}
use Rattle.csl_elements.proofs.names.options.InheritedNameOptions.or.Goals as goal

pub returns : goal.returns
returns c = λ i. record {
  and = c.or.ensures i;
  delimiter = (ap (option_map (λ t. t.now)) c.or-2.ensures ∙ map-or (λ t. t.now) c.args.self.delimiter c.args.base.delimiter) i;
  delimiter_precedes_et_al = c.or-3.ensures i;
  delimiter_precedes_last = c.or-4.ensures i;
  et_al_min = c.or-5.ensures i;
  et_al_use_first = c.or-6.ensures i;
  et_al_subsequent_min = c.or-7.ensures i;
  et_al_subsequent_use_first = c.or-8.ensures i;
  et_al_use_last = c.or-9.ensures i;
  form = c.or-10.ensures i;
  initialize = c.or-11.ensures i;
  initialize_with = (ap (option_map (λ t. t.now)) c.or-12.ensures ∙ map-or (λ t. t.now) c.args.self.initialize_with c.args.base.initialize_with) i;
  name_as_sort_order = c.or-13.ensures i;
  sort_separator = (ap (option_map (λ t. t.now)) c.or-14.ensures ∙ map-or (λ t. t.now) c.args.self.sort_separator c.args.base.sort_separator) i;
  names_delimiter = (ap (option_map (λ t. t.now)) c.or-15.ensures ∙ map-or (λ t. t.now) c.args.self.names_delimiter c.args.base.names_delimiter) i;
}
