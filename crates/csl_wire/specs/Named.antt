-- Which name a value has in JSON: the one that it has in CSL. A variable may be spelled as
-- `from_name` reads it, a language as `from_tag` does. The term of a locator that shares its name
-- with a variable is called `locator:` and the name.
use Rattle.std.specs.Prelude.{◌≡◌, ◌⊎◌, ℕ, List, ◌++◌, Some, codes}
use Rattle.csl_elements.specs.declared.taxonomy.Variable.{Variable}
use Rattle.csl_elements.specs.declared.taxonomy.NumberOrPageVariable.{NumberOrPageVariable}
use Rattle.csl_elements.specs.declared.taxonomy.NumberOrPageVariable.TheVariants as numbers_or_pages
use Rattle.csl_elements.specs.declared.taxonomy.NameVariable.{NameVariable}
use Rattle.csl_elements.specs.declared.taxonomy.DateVariable.{DateVariable}
use Rattle.csl_elements.specs.declared.taxonomy.Kind.{Kind}
use Rattle.csl_elements.specs.declared.taxonomy.Locator.{Locator}
use Rattle.csl_elements.specs.declared.term.Term.{Term}
use Rattle.csl_elements.specs.declared.term.Term.TheVariants as terms
use Rattle.csl_elements.specs.VariableNames.{date_name, name_variable_name, number_name, page_name, variable_name, variable_spelling}
use Rattle.csl_elements.specs.Taxonomy.{name_of}
use Rattle.csl_elements.specs.LocatorNames.{locator_name}
use Rattle.csl_elements.specs.TermNames.{term_spelling, IsTermOf}
use Rattle.csl_languages.specs.declared.language.Language.{Language}
use Rattle.csl_languages.specs.Tag.{of_tag}

abbrev pub variable_has : List ℕ → Variable → Type 0
variable_has name v = variable_spelling name ≡ variable_name v

abbrev pub number_or_page_has : List ℕ → NumberOrPageVariable → Type 0
number_or_page_has name (numbers_or_pages.Number v) = name ≡ number_name v
number_or_page_has name (numbers_or_pages.Page v) = name ≡ page_name v

abbrev pub name_variable_has : List ℕ → NameVariable → Type 0
name_variable_has name v = variable_spelling name ≡ name_variable_name v

abbrev pub date_variable_has : List ℕ → DateVariable → Type 0
date_variable_has name v = name ≡ date_name v

abbrev pub kind_has : List ℕ → Kind → Type 0
kind_has name kind = name ≡ name_of kind

abbrev pub locator_has : List ℕ → Locator → Type 0
locator_has name locator = name ≡ locator_name locator

abbrev pub language_has : List ℕ → Language → Type 0
language_has tag language = of_tag tag ≡ Some language

-- the term of a locator, by the name after `locator:`, or the first of the terms of a name
abbrev pub term_has : List ℕ → Term → Type 0
term_has name t =
    ((locator : Locator) × (t ≡ terms.Locator locator) × (name ≡ codes "locator:" ++ locator_name locator))
    ⊎ IsTermOf (term_spelling name) t
