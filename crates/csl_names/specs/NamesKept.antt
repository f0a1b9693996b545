-- The forms that a names node writes and keeps (CSL 1.0.2, Disambiguation,
-- `disambiguate-add-names`, `disambiguate-add-givenname`).
-- - A node uses the citation's forms if they are of exactly its variables as written, in its order,
--   before editors and translators are merged (`forms_for`). Then its first list has their first
--   list of forms, and so on, and none if there are fewer. Its options for forms and limits do not
--   count. In any other case the forms are its own: each name has the default form, or none if it
--   is left out (`own_forms`).
-- - The forms that a node uses (`forms_in`) are the citation's as they are, or its own with the
--   default form and the node's variables. The state *keeps* them if it keeps none yet. Names that
--   are counted keep none (`with_first_forms_by`).
use Rattle.std.specs.Prelude.{Bool, not, List, Option, Some, None, if◌then◌else◌}
use Rattle.std.specs.Option.{unwrap_or, option_or}
use Rattle.csl_elements.specs.declared.names.NameForm.{NameForm}
use Rattle.csl_elements.specs.declared.names.NameForm.TheVariants.{Count, Short, Long}
use Rattle.csl_elements.specs.declared.taxonomy.NameVariable.{NameVariable}
use Rattle.csl_elements.specs.NamesOptions.{CompleteOptions}
use Rattle.csl_entry.specs.Cite.{CiteState, Disambiguation, no_disambiguation, by_names, by_choose, by_year_suffix}
use Rattle.csl_entry.specs.NameProperties.{NameProperties}
use Rattle.csl_context.specs.State.{State}
use Rattle.csl_names.specs.NamesLists.{PersonLists, same_variables}
use Rattle.csl_names.specs.NamesForms.{default_form, default_forms}

-- the forms that disambiguate the cite, if they are of exactly these variables, in this order
abbrev pub forms_for : List NameVariable → Disambiguation → Option NameProperties
forms_for vs no_disambiguation = None
forms_for vs (by_names p) = if same_variables p.variables vs then Some p else None
forms_for vs by_choose = None
forms_for vs (by_year_suffix n) = None

-- the forms that the options give to the names of each list
abbrev pub own_forms : List NameVariable → CompleteOptions → Bool → PersonLists → NameProperties
own_forms vs o later ls = record { default_form = default_form o; variables = vs; lists = default_forms o later ls }

-- the forms that a node of these variables, as it is written, uses for the names of its lists
abbrev pub forms_in : CiteState → List NameVariable → CompleteOptions → PersonLists → NameProperties
forms_in cite vs o ls = unwrap_or (forms_for vs cite.disambiguation) (own_forms vs o (not cite.is_first) ls)

-- the state keeps these forms, unless it keeps some already
abbrev pub with_first_forms : NameProperties → State → State
with_first_forms p s = record s { first_names = option_or s.first_names (Some p) }

-- names that are counted keep no forms
abbrev pub with_first_forms_by : NameForm → NameProperties → State → State
with_first_forms_by Count p s = s
with_first_forms_by Short p s = with_first_forms p s
with_first_forms_by Long p s = with_first_forms p s
