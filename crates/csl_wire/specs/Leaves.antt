-- Which texts, numbers, labels and dates JSON objects are read as (CSL 1.0.2, Text, Number, Label,
-- Date): each attribute from the member of its name. One that is absent has its default: the long
-- form, numeric, singular, contextual, without quotes, periods kept. A case is read as marks, if marks
-- are wanted, but at a text that prints a link: its prefix may begin the address.
use Rattle.std.specs.Prelude.{◌≡◌, ℕ, List, Bool, false, not, ◌&&◌, ◌||◌, Option, Some, None, map, option_map, option_and_then, unwrap_or, codes, string_bytes}
use Rattle.std.specs.List.{AllZip}
use Rattle.serde_json.specs.Data.{Data}
use Rattle.serde_json.specs.Find.{as_str}
use Rattle.csl_common.specs.declared.form.LongShortForm.{LongShortForm}
use Rattle.csl_common.specs.declared.form.LongShortForm.TheVariants.{Long as LongForm}
use Rattle.csl_common.specs.declared.form.NumberForm.{NumberForm}
use Rattle.csl_common.specs.declared.form.NumberForm.TheVariants.{Numeric}
use Rattle.csl_elements.specs.declared.date.DateForm.{DateForm}
use Rattle.csl_elements.specs.declared.taxonomy.NumberOrPageVariable.{NumberOrPageVariable}
use Rattle.csl_elements.specs.declared.taxonomy.Variable.{Variable}
use Rattle.csl_elements.specs.declared.taxonomy.Variable.TheVariants as variables
use Rattle.csl_elements.specs.declared.taxonomy.StandardVariable.{StandardVariable}
use Rattle.csl_elements.specs.declared.taxonomy.StandardVariable.TheVariants as standards
use Rattle.csl_elements.specs.contracts.taxonomy.StandardVariable.{the_type as the_standard}
use denote.Enum.Bare.{sameb}
use Rattle.csl_elements.specs.declared.term.Term.{Term}
use Rattle.csl_elements.specs.declared.term.TermForm.{TermForm}
use Rattle.csl_elements.specs.declared.text.Text.{Text}
use Rattle.csl_elements.specs.declared.text.TextTarget.{TextTarget}
use Rattle.csl_elements.specs.declared.text.TextTarget.TheVariants as target
use Rattle.csl_elements.specs.Dressing.{Dressing, TextDressing}
use Rattle.csl_elements.specs.Names.{LabelNode}
use Rattle.csl_elements.specs.Node.{DateNode, NumberNode}
use Rattle.csl_elements.specs.View.{text_dressing}
use Rattle.csl_wire.specs.Reading.{lent, pair_by, member, read_choice, read_flag, read_items, read_list, read_member, read_one, value_named}
use Rattle.csl_wire.specs.Named.{date_variable_has, number_or_page_has, term_has, variable_has}
use Rattle.csl_wire.specs.Dressed.{read_affixes, read_cased_affixes, read_display, read_formatting}
use Rattle.csl_wire.specs.Parts.{read_date_part, read_label, read_term_form}
use Rattle.csl_wire.specs.declared.choices.TheConstants as tables

-- the member is the name of the value
pub record IsNamed {T : Type 0} (has : List ℕ → T → Type 0) (name : List ℕ) (d : Data) (v : T) : Type 0 where
  pub word : List ℕ
  pub is : read_one as_str name d ≡ Some word
  pub named : has word v

-- the member is absent, or the name of the value
abbrev pub IsNamedIf : {T : Type 0} → (List ℕ → T → Type 0) → List ℕ → Data → Option T → Type 0
IsNamedIf has name d None = member name d ≡ None
IsNamedIf has name d (Some v) = IsNamed has name d v

-- the value of the first pair that the word names
abbrev pub has_choice : {T : Type 0} → List (List ℕ × T) → List ℕ → T → Type 0
has_choice names word v = value_named names word ≡ Some v

-- a word that names the value
pub record IsWordOf {T : Type 0} (has : List ℕ → T → Type 0) (d : Data) (v : T) : Type 0 where
  pub word : List ℕ
  pub is : as_str d ≡ Some word
  pub named : has word v

-- the items of a member that has to be there, each the name of a value
pub record AreNamed {T : Type 0} (has : List ℕ → T → Type 0) (name : List ℕ) (d : Data) (vs : List T) : Type 0 where
  pub items : List Data
  pub are : option_map read_items (member name d) ≡ Some (Some items)
  pub named : AllZip (IsWordOf has) items vs

-- a member that is absent, or such a list
abbrev pub AreNamedIf : {T : Type 0} → (List ℕ → T → Type 0) → List ℕ → Data → Option (List T) → Type 0
AreNamedIf has name d None = member name d ≡ None
AreNamedIf has name d (Some vs) = AreNamed has name d vs

-- the items of a member, each read
pub record AreRead {T : Type 0} (read : Data → Option T) (name : List ℕ) (d : Data) (ts : List T) : Type 0 where
  pub items : List Data
  pub are : read_list name d ≡ Some items
  pub read_as : map read items ≡ map Some ts

abbrev pub read_dressing : Data → Option Dressing
read_dressing d = option_and_then (λ f. option_and_then (λ a. option_map (λ s. record {
  formatting = f;
  affixes = a;
  display = s;
}) (read_display d)) (read_affixes d)) (read_formatting d)

-- the same of a node that may have a case
abbrev pub read_cased_dressing : Bool → Data → Option Dressing
read_cased_dressing marks d = option_and_then (λ f. option_and_then (λ a. option_map (λ s. record {
  formatting = f;
  affixes = a;
  display = s;
}) (read_display d)) (read_cased_affixes marks d)) (read_formatting d)

abbrev pub read_text_dressing : Bool → Data → Option TextDressing
read_text_dressing marks d = option_and_then (λ dressing. option_and_then (λ quotes. option_map (λ strip. record {
  dressing = dressing;
  quotes = quotes;
  strip_periods = strip;
}) (read_flag (codes "strip-periods") d)) (read_flag (codes "quotes") d)) (read_cased_dressing marks d)

abbrev read_long_or_short : Data → Option LongShortForm
read_long_or_short d = option_map (λ o. unwrap_or o LongForm)
    (read_member (read_choice (map (pair_by lent) tables.LONG_SHORT_FORMS)) (codes "form") d)

pub record IsOfVariable (d : Data) (v : Variable) (form : LongShortForm) : Type 0 where
  pub variable : IsNamed variable_has (codes "variable") d v
  pub form_ : read_long_or_short d ≡ Some form

pub record IsOfTerm (d : Data) (t : Term) (form : TermForm) (plural : Bool) : Type 0 where
  pub term : IsNamed term_has (codes "term") d t
  pub form_ : read_term_form d ≡ Some form
  pub plural_ : read_flag (codes "plural") d ≡ Some plural

-- what a text prints
abbrev pub IsTarget : Data → TextTarget → Type 0
IsTarget d (target.Variable v form) = IsOfVariable d v form
IsTarget d (target.Macro name) = read_one as_str (codes "macro") d ≡ Some (string_bytes name)
IsTarget d (target.Term t form plural) = IsOfTerm d t form plural
IsTarget d (target.Value words) = read_one as_str (codes "value") d ≡ Some (string_bytes words)

-- a text that prints a link (CSL 1.0.2, Appendix VI, Links)
abbrev is_standard : StandardVariable → StandardVariable → Bool
is_standard u v = sameb the_standard v u

abbrev is_link_variable : Variable → Bool
is_link_variable (variables.Standard v) = is_standard standards.DOI v || is_standard standards.PMCID v || is_standard standards.PMID v || is_standard standards.URL v
is_link_variable (variables.Number v) = false
is_link_variable (variables.Page v) = false
is_link_variable (variables.Date v) = false
is_link_variable (variables.Name v) = false

abbrev pub is_link : TextTarget → Bool
is_link (target.Variable v form) = is_link_variable v
is_link (target.Macro name) = false
is_link (target.Term t form plural) = false
is_link (target.Value words) = false

pub record IsText (marks : Bool) (d : Data) (t : Text) : Type 0 where
  pub target : IsTarget d t.target
  pub dressing : read_text_dressing (marks && not (is_link t.target)) d ≡ Some (text_dressing t)

abbrev read_number_form : Data → Option NumberForm
read_number_form d = option_map (λ o. unwrap_or o Numeric)
    (read_member (read_choice (map (pair_by lent) tables.NUMBER_FORMS)) (codes "form") d)

pub record IsNumber (marks : Bool) (d : Data) (n : NumberNode) : Type 0 where
  pub variable : IsNamed number_or_page_has (codes "variable") d n.variable
  pub form : read_number_form d ≡ Some n.form
  pub dressing : read_cased_dressing marks d ≡ Some n.dressing

pub record IsLabel (marks : Bool) (d : Data) (v : NumberOrPageVariable) (l : LabelNode) : Type 0 where
  pub variable : IsNamed number_or_page_has (codes "variable") d v
  pub label : read_label marks d ≡ Some l

abbrev pub read_date_form : Data → Option (Option DateForm)
read_date_form d = read_member (read_choice (map (pair_by lent) tables.DATE_FORMS)) (codes "form") d

-- the parts of a date, without its variable and form
pub record IsDateBody (marks : Bool) (d : Data) (n : DateNode) : Type 0 where
  pub parts : read_member (read_choice (map (pair_by lent) tables.DATE_PARTS)) (codes "date-parts") d ≡ Some n.parts
  pub date_part : AreRead (read_date_part marks) (codes "date-part") d n.date_part
  pub delimiter : read_member as_str (codes "delimiter") d ≡ Some n.delimiter
  pub dressing : read_dressing d ≡ Some n.dressing

-- a date of a style, and one of a locale, which has no variable
pub record IsDate (marks : Bool) (d : Data) (n : DateNode) : Type 0 where
  pub variable : IsNamedIf date_variable_has (codes "variable") d n.variable
  pub form : read_date_form d ≡ Some n.form
  pub body : IsDateBody marks d n

pub record IsLocalizedDate (marks : Bool) (d : Data) (n : DateNode) : Type 0 where
  pub variable : n.variable ≡ None
  pub form : read_date_form d ≡ Some n.form
  pub body : IsDateBody marks d n
