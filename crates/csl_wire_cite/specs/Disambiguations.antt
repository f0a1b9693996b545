-- Which disambiguations JSON objects are read as (CSL 1.0.2, Disambiguation): of a cite at most one
-- of `disambiguate`, `year-suffix` and `names`. The form of a name that is not shown is `null`.
use Rattle.std.specs.Prelude.{◌≡◌, ⊤, ℕ, List, Bool, true, false, Option, Some, None, map, option_map, option_and_then, codes}
use Rattle.serde_json.specs.Data.{Data}
use Rattle.serde_json.specs.Find.{as_null, as_str}
use Rattle.csl_entry.specs.Cite.{Disambiguation, no_disambiguation, by_names, by_choose, by_year_suffix}
use Rattle.csl_entry.specs.NameProperties.{NameForms, NameProperties}
use Rattle.csl_entry.specs.declared.forms.name_form.DisambiguatedNameForm.{DisambiguatedNameForm}
use Rattle.csl_wire.specs.Reading.{lent, pair_by, member, read_choice, read_flag, read_list, read_one}
use Rattle.csl_wire.specs.Leaves.{AreNamed}
use Rattle.csl_wire.specs.Named.{name_variable_has}
use Rattle.csl_wire_cite.specs.Reads.{read_each, read_list_of}
use Rattle.csl_wire_cite.specs.YearSuffixes.{IsSuffix}
use Rattle.csl_wire_cite.specs.declared.disambiguation.TheConstants as tables

abbrev pub read_form : Data → Option DisambiguatedNameForm
read_form d = read_choice (map (pair_by lent) tables.NAME_FORMS) d

abbrev read_unless_null : Option ⊤ → Data → Option (Option DisambiguatedNameForm)
read_unless_null (Some is_null) d = Some None
read_unless_null None d = option_map Some (read_form d)

abbrev pub read_name_form : Data → Option (Option DisambiguatedNameForm)
read_name_form d = read_unless_null (as_null d) d

abbrev pub read_name_forms : Data → Option NameForms
read_name_forms = read_list_of read_name_form

-- the forms of the names of lists
pub record AreForms (d : Data) (p : NameProperties) : Type 0 where
  pub default_ : read_one read_form (codes "default") d ≡ Some p.default_form
  pub variables_ : AreNamed name_variable_has (codes "variable") d p.variables
  pub lists_ : option_and_then (read_each read_name_forms) (read_list (codes "lists") d) ≡ Some p.lists

pub record AreFormsIn (d : Data) (p : NameProperties) : Type 0 where
  pub names : Data
  pub are : member (codes "names") d ≡ Some names
  pub forms : AreForms names p

-- a member that is absent, or the word of a year suffix
pub record IsSuffixIn (d : Data) (n : ℕ) : Type 0 where
  pub word : List ℕ
  pub is : read_one as_str (codes "year-suffix") d ≡ Some word
  pub suffix : IsSuffix word n

abbrev pub IsSuffixIf : Data → Option ℕ → Type 0
IsSuffixIf d None = member (codes "year-suffix") d ≡ None
IsSuffixIf d (Some n) = IsSuffixIn d n

abbrev HasFlag : Bool → Data → Type 0
HasFlag b d = read_flag (codes "disambiguate") d ≡ Some b

abbrev pub IsDisambiguation : Data → Disambiguation → Type 0
IsDisambiguation d no_disambiguation = HasFlag false d × IsSuffixIf d None × (member (codes "names") d ≡ None)
IsDisambiguation d (by_names p) = HasFlag false d × IsSuffixIf d None × AreFormsIn d p
IsDisambiguation d by_choose = HasFlag true d × IsSuffixIf d None × (member (codes "names") d ≡ None)
IsDisambiguation d (by_year_suffix n) = HasFlag false d × IsSuffixIf d (Some n) × (member (codes "names") d ≡ None)
