-- The forms of a node's names, and whether a node is void (CSL 1.0.2, Name: `form`, `initialize`,
-- `et-al-min` and those after it).
-- - The *default form* is the count if the options ask for it, else the short or the long form.
--   These two have initials if initialize is on and the options set `initialize-with`
--   (`default_form`). A name has the default form, or none if it is left out, in a first cite or a
--   later one (`form_in`, `default_forms`).
-- - *The count* is the number of names of all lists that are not left out (`count_of`). The printed
--   number stops at 2^64 - 1.
-- - A node is *void* (`writes_no_name`) if it has no persons. It is also void if each of its name
--   children, or the default one if it has none, hides all names: by its options over those of the
--   node alone, et-al-min and et-al-use-first are set, the latter is 0, and each list has at least
--   et-al-min persons. A last name that et-al-use-last keeps does not count. A dry run decides this
--   by the lists as they are looked up.
use Rattle.std.specs.Prelude.{ℕ, ◌+◌, Bool, false, not, ◌&&◌, ◌||◌, ◌==◌, nat_le, min, List, [], ◌∷◌, map, length, count_by, Option, Some, None, is_some, if◌then◌else◌}
use Rattle.std.specs.List.{list_all, range_with_len}
use Rattle.std.specs.Option.{option_or}
use Rattle.csl_elements.specs.declared.names.NameForm.{NameForm}
use Rattle.csl_elements.specs.declared.names.NameForm.TheVariants.{Count, Short, Long}
use Rattle.csl_elements.specs.NamesOptions.{CompleteOptions, is_suppressed}
use Rattle.csl_elements.specs.Names.{NameNode, NamesNode}
use Rattle.csl_entry.specs.declared.forms.name_form.DisambiguatedNameForm.{DisambiguatedNameForm}
use Rattle.csl_entry.specs.declared.forms.name_form.DisambiguatedNameForm.TheVariants as forms
use Rattle.csl_entry.specs.NameProperties.{NameForms}
use Rattle.csl_names.specs.NamesLists.{PersonLists, all_empty}

-- ---- forms

-- whether given names are written by their initials
abbrev pub is_initialized : CompleteOptions → Bool
is_initialized o = o.initialize && is_some o.initialize_with

abbrev pub form_by : NameForm → Bool → DisambiguatedNameForm
form_by Count initialized = forms.Count
form_by Short initialized = if initialized then forms.ShortInitialized else forms.ShortFull
form_by Long initialized = if initialized then forms.LongInitialized else forms.LongFull

-- the form of each name that is shown
abbrev pub default_form : CompleteOptions → DisambiguatedNameForm
default_form o = form_by o.form (is_initialized o)

-- the form of the name at a place of a list of `len` names, in a first or a later cite; a name that
-- is left out has none
abbrev pub form_in : CompleteOptions → Bool → ℕ → ℕ → Option DisambiguatedNameForm
form_in o later len place = if is_suppressed o place len later then None else Some (default_form o)

abbrev pub list_forms : CompleteOptions → Bool → ℕ → NameForms
list_forms o later len = map (form_in o later len) (range_with_len 0 len)

abbrev pub default_forms : CompleteOptions → Bool → PersonLists → List NameForms
default_forms o later ls = map (λ l. list_forms o later (length l.0)) ls

-- ---- counts

-- the number of names in a list of `len` that are not left out
abbrev pub shown_count : CompleteOptions → Bool → ℕ → ℕ
shown_count o later len = count_by (λ place. not (is_suppressed o place len later)) (range_with_len 0 len)

-- the number of names in all lists that are not left out
abbrev pub count_of : CompleteOptions → Bool → PersonLists → ℕ
count_of o later [] = 0
count_of o later (l ∷ ls) = shown_count o later (length l.0) + count_of o later ls

-- the number of counted names stops at `usize::MAX`
abbrev pub saturated_count : ℕ → ℕ
saturated_count n = min n 18446744073709551615

-- ---- void nodes

-- whether each list leaves out its names from the first on, by these two limits
abbrev pub hides_all : Option ℕ → Option ℕ → PersonLists → Bool
hides_all None first ls = false
hides_all (Some min) None ls = false
hides_all (Some min) (Some first) ls = (first == 0) && list_all (λ l. nat_le min (length l.0)) ls

-- whether a name child hides all names, by its limits over those of its node
abbrev pub name_hides : Option ℕ → Option ℕ → PersonLists → NameNode → Bool
name_hides min first ls n = hides_all (option_or n.options.et_al_min min) (option_or n.options.et_al_use_first first) ls

-- whether each name child hides all names, or the default one if there is none
abbrev pub each_hides : Option ℕ → Option ℕ → PersonLists → List NameNode → Bool
each_hides min first ls [] = hides_all min first ls
each_hides min first ls (n ∷ ns) = list_all (name_hides min first ls) (n ∷ ns)

-- whether a node hides all names, by its own options alone
abbrev pub hides_names : NamesNode → PersonLists → Bool
hides_names n ls = each_hides n.options.et_al_min n.options.et_al_use_first ls n.name_children

abbrev pub writes_no_name : NamesNode → PersonLists → Bool
writes_no_name n ls = all_empty ls || hides_names n ls
