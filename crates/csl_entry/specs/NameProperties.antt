-- The forms that a citation keeps (CSL 1.0.2, Disambiguation, `disambiguate-add-names`,
-- `disambiguate-add-givenname`): a default form for names that become shown, the variables, and for
-- each list of names the form of each, absent if it is not shown. CSL leaves the use of these forms
-- to the processor; the four rules of this file are this project's.
use Rattle.std.specs.Prelude.{ℕ, ◌+◌, ◌-◌, ◌<◌, List, [], ◌∷◌, ◌++◌, length, take, drop, map, count_by, position, ◌==◌, nat_lt, nat_le, Option, Some, None, is_some, IsSomeAnd, unwrap_or, slice_get, slice_set, slice_index_or, option_and_then, All, if◌then◌else◌}
use Rattle.std.specs.List.{flat_map, sum_by, enumerate_from}
use Rattle.std.specs.Option.{option_cmp, option_map, option_map_or, ForSome}
use Rattle.std.specs.Ordering.{nat_cmp, ordering_then}
use Rattle.std.specs.Cmp.Lexicographic.{slice_cmp}
use Rattle.std.specs.declared.cmp.Ordering.{Ordering}
use denote.Enum.Bare.{sameb}
use Rattle.csl_elements.specs.contracts.taxonomy.NameVariable.{the_type}
use Rattle.csl_elements.specs.declared.taxonomy.NameVariable.{NameVariable}
use Rattle.csl_entry.specs.declared.forms.name_form.DisambiguatedNameForm.{DisambiguatedNameForm}
use Rattle.csl_entry.specs.declared.forms.name_properties.NameDisambiguationProperties.{NameDisambiguationProperties}
use Rattle.csl_entry.specs.NameForm.{form_cmp, disambiguated_form}

-- the form of each name of a list, absent if it is not shown
abbrev pub NameForms : Type 0
NameForms = List (Option DisambiguatedNameForm)

-- the form of a name that becomes shown, the variables, and for each list of names the form of each
-- name, absent if it is not shown
pub record NameProperties : Type 0 where
  pub default_form : DisambiguatedNameForm
  pub variables : List NameVariable
  pub lists : List (List (Option DisambiguatedNameForm))

abbrev pub name_properties : NameDisambiguationProperties → NameProperties
name_properties p = record {
  default_form = p.default_name_form;
  variables = p.variables.items;
  lists = map (λ forms. forms.items) p.name_forms.items;
}

-- the forms of all lists in order, absent ones included
abbrev pub all_forms : List NameForms → NameForms
all_forms lists = flat_map (λ forms. forms) lists

-- ---- more names are shown (disambiguate-add-names)
-- In the first list of at least n forms, each absent one of its first n becomes the default form.
-- Without such a list nothing changes. An n of 0 finds the first list.

-- absent forms become this one
abbrev pub all_shown : DisambiguatedNameForm → NameForms → NameForms
all_shown form forms = map (λ f. Some (unwrap_or f form)) forms

-- the first n forms of a list, if they are absent, become this one
abbrev pub first_shown : DisambiguatedNameForm → ℕ → NameForms → NameForms
first_shown form n forms = all_shown form (take n forms) ++ drop n forms

-- the place of the first list of at least n forms
abbrev pub first_as_long : ℕ → List NameForms → Option ℕ
first_as_long n lists = position (λ forms. nat_le n (length forms)) lists

-- the lists with the one at a place changed
abbrev pub with_list : List NameForms → (NameForms → NameForms) → ℕ → List NameForms
with_list lists change i = slice_set lists i (change (slice_index_or lists i []))

-- the first n names of the first list of at least n forms are shown
abbrev pub with_names_shown : ℕ → NameProperties → NameProperties
with_names_shown n p = record p {
  lists = option_map_or (with_list p.lists (first_shown p.default_form n)) (first_as_long n p.lists) p.lists;
}

-- ---- names are disambiguated (disambiguate-add-givenname)
-- The list at a variable's first position among the variables takes a step of `further_form` at
-- each given place, as often as the place is given. This is allowed (`CanDisambiguate`) if the
-- variable is not listed, and then nothing changes. It is also allowed if that list exists and has
-- each of the places.

-- the first position of a variable, if it is listed
abbrev pub first_listed : NameVariable → NameProperties → Option ℕ
first_listed variable p = position (λ v. sameb the_type v variable) p.variables

-- if the variable is listed, there is a list at its first position, and it has each of the places
abbrev pub CanDisambiguate : NameVariable → List ℕ → NameProperties → Type 0
CanDisambiguate variable places p = ForSome (first_listed variable p)
    (λ i. IsSomeAnd (slice_get p.lists i) (λ forms. All (λ k. k < length forms) places))

-- the form of each name after one step for each time that its place is given
abbrev pub disambiguated_forms : DisambiguatedNameForm → List ℕ → NameForms → NameForms
disambiguated_forms default places forms = map (λ f. disambiguated_form default (count_by (λ k. k == f.0) places) f.1) (enumerate_from 0 forms)

-- the names at these places of a variable's list are disambiguated
abbrev pub with_disambiguated_list : NameVariable → List ℕ → NameProperties → NameProperties
with_disambiguated_list variable places p = record p {
  lists = option_map_or (with_list p.lists (disambiguated_forms p.default_form places)) (first_listed variable p) p.lists;
}

-- ---- which of two shows more
-- The one with more present forms, over all lists, shows more. If both have the same number, it is
-- the one that is later by all forms, list after list, at the first place at which they differ. An
-- absent form comes first, the others by how much they show, and a list before a longer one that it
-- begins. The default form, the variables and the borders of the lists do not count, so two
-- different ones may tie; then the second is taken.

-- the number of names that are shown
abbrev pub shown_count : NameProperties → ℕ
shown_count p = sum_by (count_by is_some) p.lists

-- the order of lists of forms, by the first place at which they differ; an absent form comes first,
-- and a list before a longer one
abbrev pub forms_cmp : NameForms → NameForms → Ordering
forms_cmp = slice_cmp (option_cmp form_cmp)

-- the order by the number of names that are shown, then by all forms
abbrev pub properties_cmp : NameProperties → NameProperties → Ordering
properties_cmp p q = ordering_then (nat_cmp (shown_count p) (shown_count q)) (forms_cmp (all_forms p.lists) (all_forms q.lists))

-- ---- one form
-- The i-th of all forms, lists in order, from 0, absent ones included. If it is absent, or there
-- are fewer, it is the default form. A form that is written there goes to the place that was read,
-- so the default form may change; nothing else does.

-- the i-th of all forms, if it exists and is not absent
abbrev pub form_at : ℕ → NameProperties → Option DisambiguatedNameForm
form_at i p = option_and_then (λ f. f) (slice_get (all_forms p.lists) i)

-- the i-th of all forms, or the default one if it is absent or does not exist
abbrev pub form_or_default : ℕ → NameProperties → DisambiguatedNameForm
form_or_default i p = unwrap_or (form_at i p) p.default_form

-- the lists with another form as the i-th of all
abbrev pub with_form_at : ℕ → DisambiguatedNameForm → List NameForms → List NameForms
with_form_at i form [] = []
with_form_at i form (forms ∷ lists) =
    if nat_lt i (length forms) then slice_set forms i (Some form) ∷ lists else forms ∷ with_form_at (i - length forms) form lists

-- a form as the i-th of all, or as the default one if that was read
abbrev pub with_form : ℕ → NameProperties → DisambiguatedNameForm → NameProperties
with_form i p form = if is_some (form_at i p) then record p { lists = with_form_at i form p.lists } else record p { default_form = form }

-- the list that has the i-th of all forms, and its place there, if it is not absent; lists are
-- counted from n on
abbrev pub shown_from : ℕ → ℕ → List NameForms → Option (ℕ × ℕ)
shown_from n i [] = None
shown_from n i (forms ∷ lists) =
    if nat_lt i (length forms) then option_map (λ form. (n, i)) (slice_index_or forms i None) else shown_from (n + 1) (i - length forms) lists
