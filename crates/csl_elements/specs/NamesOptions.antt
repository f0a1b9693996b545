-- The options of names (CSL 1.0.2, Inheritable Name Options; Name, `et-al-min` and those after it).
-- - One set of options over another takes each option that is set, else the other's
--   (`apply_options`).
-- - An option that is not set has its default: `, ` for the delimiter and the sort separator, the
--   long form, initialize on, contextual for both delimiter behaviours, the last name not kept, and
--   nothing between two lists. The other options have none.
-- - A name at a place of a list is left out (`is_suppressed`) if et-al-min and et-al-use-first are
--   set, the list has at least et-al-min names, the place is not below et-al-use-first, and it is
--   not the last name that et-al-use-last keeps. That option keeps the last name of a list that has
--   at least two names more than et-al-use-first.
-- - For a later cite, et-al-subsequent-min and et-al-subsequent-use-first replace the two numbers,
--   each if it is set.
use Rattle.std.specs.Prelude.{ℕ, ◌+◌, Bool, true, false, not, ◌&&◌, ◌==◌, nat_le, List, [], Option, Some, None, option_map, unwrap_or, string_bytes, codes, if◌then◌else◌}
use Rattle.std.specs.Option.{option_or}
use Rattle.csl_elements.specs.declared.names.NameForm.{NameForm}
use Rattle.csl_elements.specs.declared.names.NameForm.TheVariants.{Long}
use Rattle.csl_elements.specs.declared.names.NameAnd.{NameAnd}
use Rattle.csl_elements.specs.declared.names.NameAsSortOrder.{NameAsSortOrder}
use Rattle.csl_elements.specs.declared.names.DelimiterBehavior.{DelimiterBehavior}
use Rattle.csl_elements.specs.declared.names.DelimiterBehavior.TheVariants.{Contextual}
use Rattle.csl_elements.specs.declared.names.options.InheritableNameOptions.{InheritableNameOptions}
use Rattle.csl_elements.specs.declared.names.options.InheritedNameOptions.{InheritedNameOptions}
use Rattle.csl_elements.specs.declared.names.options.NameOptions.{NameOptions}

-- the options, each set or not
pub record PartialOptions : Type 0 where
  pub and : Option NameAnd
  pub delimiter : Option (List ℕ)
  pub delimiter_precedes_et_al : Option DelimiterBehavior
  pub delimiter_precedes_last : Option DelimiterBehavior
  pub et_al_min : Option ℕ
  pub et_al_use_first : Option ℕ
  pub et_al_subsequent_min : Option ℕ
  pub et_al_subsequent_use_first : Option ℕ
  pub et_al_use_last : Option Bool
  pub form : Option NameForm
  pub initialize : Option Bool
  pub initialize_with : Option (List ℕ)
  pub name_as_sort_order : Option NameAsSortOrder
  pub sort_separator : Option (List ℕ)
  pub names_delimiter : Option (List ℕ)

-- no option is set
abbrev pub no_options : PartialOptions
no_options = record {
  and = None;
  delimiter = None;
  delimiter_precedes_et_al = None;
  delimiter_precedes_last = None;
  et_al_min = None;
  et_al_use_first = None;
  et_al_subsequent_min = None;
  et_al_subsequent_use_first = None;
  et_al_use_last = None;
  form = None;
  initialize = None;
  initialize_with = None;
  name_as_sort_order = None;
  sort_separator = None;
  names_delimiter = None;
}

-- the options that a node or a style sets
abbrev pub partial_options : InheritableNameOptions → PartialOptions
partial_options o = record {
  and = o.and;
  delimiter = option_map string_bytes o.delimiter;
  delimiter_precedes_et_al = o.delimiter_precedes_et_al;
  delimiter_precedes_last = o.delimiter_precedes_last;
  et_al_min = o.et_al_min;
  et_al_use_first = o.et_al_use_first;
  et_al_subsequent_min = o.et_al_subsequent_min;
  et_al_subsequent_use_first = o.et_al_subsequent_use_first;
  et_al_use_last = o.et_al_use_last;
  form = o.form;
  initialize = o.initialize;
  initialize_with = option_map string_bytes o.initialize_with;
  name_as_sort_order = o.name_as_sort_order;
  sort_separator = option_map string_bytes o.sort_separator;
  names_delimiter = option_map string_bytes o.names_delimiter;
}

-- the options that a node inherits
abbrev pub inherited_options : InheritedNameOptions → PartialOptions
inherited_options o = record {
  and = o.and;
  delimiter = option_map (λ t. t.now) o.delimiter;
  delimiter_precedes_et_al = o.delimiter_precedes_et_al;
  delimiter_precedes_last = o.delimiter_precedes_last;
  et_al_min = o.et_al_min;
  et_al_use_first = o.et_al_use_first;
  et_al_subsequent_min = o.et_al_subsequent_min;
  et_al_subsequent_use_first = o.et_al_subsequent_use_first;
  et_al_use_last = o.et_al_use_last;
  form = o.form;
  initialize = o.initialize;
  initialize_with = option_map (λ t. t.now) o.initialize_with;
  name_as_sort_order = o.name_as_sort_order;
  sort_separator = option_map (λ t. t.now) o.sort_separator;
  names_delimiter = option_map (λ t. t.now) o.names_delimiter;
}

-- one set over another: each option that is set, else that of the base
abbrev pub apply_options : PartialOptions → PartialOptions → PartialOptions
apply_options p base = record {
  and = option_or p.and base.and;
  delimiter = option_or p.delimiter base.delimiter;
  delimiter_precedes_et_al = option_or p.delimiter_precedes_et_al base.delimiter_precedes_et_al;
  delimiter_precedes_last = option_or p.delimiter_precedes_last base.delimiter_precedes_last;
  et_al_min = option_or p.et_al_min base.et_al_min;
  et_al_use_first = option_or p.et_al_use_first base.et_al_use_first;
  et_al_subsequent_min = option_or p.et_al_subsequent_min base.et_al_subsequent_min;
  et_al_subsequent_use_first = option_or p.et_al_subsequent_use_first base.et_al_subsequent_use_first;
  et_al_use_last = option_or p.et_al_use_last base.et_al_use_last;
  form = option_or p.form base.form;
  initialize = option_or p.initialize base.initialize;
  initialize_with = option_or p.initialize_with base.initialize_with;
  name_as_sort_order = option_or p.name_as_sort_order base.name_as_sort_order;
  sort_separator = option_or p.sort_separator base.sort_separator;
  names_delimiter = option_or p.names_delimiter base.names_delimiter;
}

-- the options by which names are written
pub record CompleteOptions : Type 0 where
  pub and : Option NameAnd
  pub delimiter : List ℕ
  pub delimiter_precedes_et_al : DelimiterBehavior
  pub delimiter_precedes_last : DelimiterBehavior
  pub et_al_min : Option ℕ
  pub et_al_use_first : Option ℕ
  pub et_al_subsequent_min : Option ℕ
  pub et_al_subsequent_use_first : Option ℕ
  pub et_al_use_last : Bool
  pub form : NameForm
  pub initialize : Bool
  pub initialize_with : Option (List ℕ)
  pub name_as_sort_order : Option NameAsSortOrder
  pub sort_separator : List ℕ

abbrev pub complete_options : NameOptions → CompleteOptions
complete_options o = record {
  and = o.and;
  delimiter = o.delimiter.now;
  delimiter_precedes_et_al = o.delimiter_precedes_et_al;
  delimiter_precedes_last = o.delimiter_precedes_last;
  et_al_min = o.et_al_min;
  et_al_use_first = o.et_al_use_first;
  et_al_subsequent_min = o.et_al_subsequent_min;
  et_al_subsequent_use_first = o.et_al_subsequent_use_first;
  et_al_use_last = o.et_al_use_last;
  form = o.form;
  initialize = o.initialize;
  initialize_with = option_map (λ t. t.now) o.initialize_with;
  name_as_sort_order = o.name_as_sort_order;
  sort_separator = o.sort_separator.now;
}

-- each option that is set, else its default
abbrev pub with_defaults : PartialOptions → CompleteOptions
with_defaults o = record {
  and = o.and;
  delimiter = unwrap_or o.delimiter (codes ", ");
  delimiter_precedes_et_al = unwrap_or o.delimiter_precedes_et_al Contextual;
  delimiter_precedes_last = unwrap_or o.delimiter_precedes_last Contextual;
  et_al_min = o.et_al_min;
  et_al_use_first = o.et_al_use_first;
  et_al_subsequent_min = o.et_al_subsequent_min;
  et_al_subsequent_use_first = o.et_al_subsequent_use_first;
  et_al_use_last = unwrap_or o.et_al_use_last false;
  form = unwrap_or o.form Long;
  initialize = unwrap_or o.initialize true;
  initialize_with = o.initialize_with;
  name_as_sort_order = o.name_as_sort_order;
  sort_separator = unwrap_or o.sort_separator (codes ", ");
}

-- the delimiter between the lists of two variables
abbrev pub names_delimiter_of : PartialOptions → List ℕ
names_delimiter_of o = unwrap_or o.names_delimiter []

-- the limit for a cite: `later` for a subsequent one if it is set, else `own`
abbrev pub limit_of : Option ℕ → Option ℕ → Bool → Option ℕ
limit_of own later subsequent = if subsequent then option_or later own else own

-- the name is the last of a list with at least two names more than `first`
abbrev pub is_kept_last : ℕ → ℕ → ℕ → Bool
is_kept_last first idx len = nat_le (first + 2) len && (idx + 1 == len)

-- a list of `min` names or more loses those from `first` on, except a last one that is kept
abbrev pub is_cut : Option ℕ → Option ℕ → Bool → ℕ → ℕ → Bool
is_cut None first use_last idx len = false
is_cut (Some min) None use_last idx len = false
is_cut (Some min) (Some first) use_last idx len =
    nat_le min len && (nat_le first idx && not (use_last && is_kept_last first idx len))

-- whether the name at this place of a list of this length is left out
abbrev pub is_suppressed : CompleteOptions → ℕ → ℕ → Bool → Bool
is_suppressed o idx len subsequent =
    is_cut (limit_of o.et_al_min o.et_al_subsequent_min subsequent)
    (limit_of o.et_al_use_first o.et_al_subsequent_use_first subsequent)
    o.et_al_use_last idx len
