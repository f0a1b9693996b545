-- No two kinds have the same name, no two locators, no two variables, and no two terms of name variables:
-- the first of the name of one is this one.
use Rattle.std.proofs.Common.{◌≡◌, ℕ, List, ◌++◌, map, refl, sym, ap, ◌∙◌}
use Rattle.std.specs.Prelude.{Option, Some, None, find, ◌↔◌}
use Rattle.std.specs.Str.{bytes_eq}
use Rattle.csl_elements.specs.declared.taxonomy.Kind.{Kind}
use Rattle.csl_elements.specs.declared.taxonomy.Kind.TheVariants as kinds
use Rattle.csl_elements.specs.declared.taxonomy.Locator.{Locator}
use Rattle.csl_elements.specs.declared.taxonomy.Locator.TheVariants as locators
use Rattle.csl_elements.specs.declared.taxonomy.StandardVariable.{StandardVariable}
use Rattle.csl_elements.specs.declared.taxonomy.StandardVariable.TheVariants as standards
use Rattle.csl_elements.specs.declared.taxonomy.NumberVariable.{NumberVariable}
use Rattle.csl_elements.specs.declared.taxonomy.NumberVariable.TheVariants as numbers
use Rattle.csl_elements.specs.declared.taxonomy.PageVariable.{PageVariable}
use Rattle.csl_elements.specs.declared.taxonomy.PageVariable.TheVariants as pages
use Rattle.csl_elements.specs.declared.taxonomy.DateVariable.{DateVariable}
use Rattle.csl_elements.specs.declared.taxonomy.DateVariable.TheVariants as dates
use Rattle.csl_elements.specs.declared.taxonomy.NameVariable.{NameVariable}
use Rattle.csl_elements.specs.declared.taxonomy.NameVariable.TheVariants as names
use Rattle.csl_elements.specs.declared.taxonomy.Variable.{Variable}
use Rattle.csl_elements.specs.declared.taxonomy.Variable.TheVariants as variables
use Rattle.csl_elements.specs.declared.taxonomy.kind_names.TheConstants.{KINDS}
use Rattle.csl_elements.specs.declared.taxonomy.locator_names.TheConstants.{LOCATORS}
use Rattle.csl_elements.specs.declared.taxonomy.variable_names.TheConstants.{STANDARD_VARIABLES, NUMBER_VARIABLES, PAGE_VARIABLES, DATE_VARIABLES, NAME_VARIABLES}
use Rattle.csl_elements.specs.Taxonomy.{name_of}
use Rattle.csl_elements.specs.LocatorNames.{locator_name}
use Rattle.csl_elements.specs.TermNames.{role_name}
use Rattle.csl_elements.specs.VariableNames.{standard_name, number_name, page_name, date_name, name_variable_name, variable_name}
use Rattle.csl_elements.proofs.Injective.{some_injective}

pub kind_by_name : (v : Kind) → find (λ u. bytes_eq (name_of u) (name_of v)) KINDS ≡ Some v
kind_by_name kinds.Article = refl
kind_by_name _ = refl

pub locator_by_name : (v : Locator) → find (λ u. bytes_eq (locator_name u) (locator_name v)) LOCATORS ≡ Some v
locator_by_name locators.Act = refl
locator_by_name _ = refl

pub standard_by_name : (v : StandardVariable) → find (λ u. bytes_eq (standard_name u) (standard_name v)) STANDARD_VARIABLES ≡ Some v
standard_by_name standards.Abstract = refl
standard_by_name _ = refl

pub number_by_name : (v : NumberVariable) → find (λ u. bytes_eq (number_name u) (number_name v)) NUMBER_VARIABLES ≡ Some v
number_by_name numbers.ChapterNumber = refl
number_by_name _ = refl

pub page_by_name : (v : PageVariable) → find (λ u. bytes_eq (page_name u) (page_name v)) PAGE_VARIABLES ≡ Some v
page_by_name pages.Page = refl

pub date_by_name : (v : DateVariable) → find (λ u. bytes_eq (date_name u) (date_name v)) DATE_VARIABLES ≡ Some v
date_by_name dates.Accessed = refl
date_by_name _ = refl

pub name_by_name : (v : NameVariable) → find (λ u. bytes_eq (name_variable_name u) (name_variable_name v)) NAME_VARIABLES ≡ Some v
name_by_name names.Author = refl
name_by_name _ = refl

pub role_by_name : (v : NameVariable) → find (λ u. bytes_eq (role_name u) (role_name v)) NAME_VARIABLES ≡ Some v
role_by_name names.Author = refl
role_by_name _ = refl

-- ---- variables of all sorts

all_variables : List Variable
all_variables =
    map variables.Standard STANDARD_VARIABLES ++ (map variables.Number NUMBER_VARIABLES ++ (map variables.Page PAGE_VARIABLES ++ (map variables.Date DATE_VARIABLES ++ map variables.Name NAME_VARIABLES)))

by_name : List ℕ → Option Variable
by_name name = find (λ v. bytes_eq name (variable_name v)) all_variables

by_its_name : (v : Variable) → by_name (variable_name v) ≡ Some v
unfolding by_name all_variables
by_its_name (variables.Standard standards.Abstract) = refl
by_its_name (variables.Standard _) = refl
by_its_name (variables.Number numbers.ChapterNumber) = refl
by_its_name (variables.Number _) = refl
by_its_name (variables.Page pages.Page) = refl
by_its_name (variables.Date dates.Accessed) = refl
by_its_name (variables.Date _) = refl
by_its_name (variables.Name names.Author) = refl
by_its_name (variables.Name _) = refl

-- two variables of one name are one
pub one_variable : (name : List ℕ) (v w : Variable) → name ≡ variable_name v → name ≡ variable_name w → v ≡ w
one_variable name v w e f = some_injective v w (sym (by_its_name v) ∙ ap by_name (sym e ∙ f) ∙ by_its_name w)

-- the variable of a name is the one that has it
given : (name : List ℕ) (v : Variable) → name ≡ variable_name v → (w : Variable) → (Some v ≡ Some w) ↔ (name ≡ variable_name w)
given name v e w = (λ p. e ∙ ap variable_name (some_injective v w p), λ f. ap Some (one_variable name v w e f))

pub standard_given : (n name : List ℕ) → n ≡ name → (r : Option StandardVariable) (v : StandardVariable) → r ≡ Some v → ((x : StandardVariable) → (r ≡ Some x) ↔ (n ≡ standard_name x)) → (w : Variable) → (Some (variables.Standard v) ≡ Some w) ↔ (name ≡ variable_name w)
standard_given n name e r v is law = given name (variables.Standard v) (sym e ∙ (law v).0 is)

pub number_given : (n name : List ℕ) → n ≡ name → (r : Option NumberVariable) (v : NumberVariable) → r ≡ Some v → ((x : NumberVariable) → (r ≡ Some x) ↔ (n ≡ number_name x)) → (w : Variable) → (Some (variables.Number v) ≡ Some w) ↔ (name ≡ variable_name w)
number_given n name e r v is law = given name (variables.Number v) (sym e ∙ (law v).0 is)

pub page_given : (n name : List ℕ) → n ≡ name → (r : Option PageVariable) (v : PageVariable) → r ≡ Some v → ((x : PageVariable) → (r ≡ Some x) ↔ (n ≡ page_name x)) → (w : Variable) → (Some (variables.Page v) ≡ Some w) ↔ (name ≡ variable_name w)
page_given n name e r v is law = given name (variables.Page v) (sym e ∙ (law v).0 is)

pub date_given : (n name : List ℕ) → n ≡ name → (r : Option DateVariable) (v : DateVariable) → r ≡ Some v → ((x : DateVariable) → (r ≡ Some x) ↔ (n ≡ date_name x)) → (w : Variable) → (Some (variables.Date v) ≡ Some w) ↔ (name ≡ variable_name w)
date_given n name e r v is law = given name (variables.Date v) (sym e ∙ (law v).0 is)

pub name_given : (n name : List ℕ) → n ≡ name → (r : Option NameVariable) (v : NameVariable) → r ≡ Some v → ((x : NameVariable) → (r ≡ Some x) ↔ (n ≡ name_variable_name x)) → (w : Variable) → (Some (variables.Name v) ≡ Some w) ↔ (name ≡ variable_name w)
name_given n name e r v is law = given name (variables.Name v) (sym e ∙ (law v).0 is)

-- where no sort has the name, no variable has
no_variable : (n name : List ℕ) → n ≡ name → (a : Option StandardVariable) → a ≡ None → ((v : StandardVariable) → (a ≡ Some v) ↔ (n ≡ standard_name v)) → (b : Option NumberVariable) → b ≡ None → ((v : NumberVariable) → (b ≡ Some v) ↔ (n ≡ number_name v)) → (c : Option PageVariable) → c ≡ None → ((v : PageVariable) → (c ≡ Some v) ↔ (n ≡ page_name v)) → (d : Option DateVariable) → d ≡ None → ((v : DateVariable) → (d ≡ Some v) ↔ (n ≡ date_name v)) → (e5 : Option NameVariable) → e5 ≡ None → ((v : NameVariable) → (e5 ≡ Some v) ↔ (n ≡ name_variable_name v)) → (w : Variable) → name ≡ variable_name w → None ≡ Some w
no_variable n name e a an al b bn bl c cn cl d dn dl e5 en el (variables.Standard v) h = let none : None ≡ Some v = sym an ∙ (al v).1 (e ∙ h) in cc
no_variable n name e a an al b bn bl c cn cl d dn dl e5 en el (variables.Number v) h = let none : None ≡ Some v = sym bn ∙ (bl v).1 (e ∙ h) in cc
no_variable n name e a an al b bn bl c cn cl d dn dl e5 en el (variables.Page v) h = let none : None ≡ Some v = sym cn ∙ (cl v).1 (e ∙ h) in cc
no_variable n name e a an al b bn bl c cn cl d dn dl e5 en el (variables.Date v) h = let none : None ≡ Some v = sym dn ∙ (dl v).1 (e ∙ h) in cc
no_variable n name e a an al b bn bl c cn cl d dn dl e5 en el (variables.Name v) h = let none : None ≡ Some v = sym en ∙ (el v).1 (e ∙ h) in cc

pub none_given : (n name : List ℕ) → n ≡ name → (a : Option StandardVariable) → a ≡ None → ((v : StandardVariable) → (a ≡ Some v) ↔ (n ≡ standard_name v)) → (b : Option NumberVariable) → b ≡ None → ((v : NumberVariable) → (b ≡ Some v) ↔ (n ≡ number_name v)) → (c : Option PageVariable) → c ≡ None → ((v : PageVariable) → (c ≡ Some v) ↔ (n ≡ page_name v)) → (d : Option DateVariable) → d ≡ None → ((v : DateVariable) → (d ≡ Some v) ↔ (n ≡ date_name v)) → (e5 : Option NameVariable) → e5 ≡ None → ((v : NameVariable) → (e5 ≡ Some v) ↔ (n ≡ name_variable_name v)) → (w : Variable) → (None ≡ Some w) ↔ (name ≡ variable_name w)
none_given n name e a an al b bn bl c cn cl d dn dl e5 en el w = (λ p. cc, no_variable n name e a an al b bn bl c cn cl d dn dl e5 en el w)

-- for a search for the variable of a name
pub ruleset given_laws = (standard_given, number_given, page_given, date_given, name_given, none_given)
