-- The answers of an entry that is a table. The first answer to a variable counts.
use Rattle.std.specs.Prelude.{Bool, List, [], Option, Some, None, Vec, find, map}
use Rattle.std.specs.declared.alloc.Global.{Global}
use Rattle.std.specs.List.{list_any}
use denote.Enum.Bare.{sameb}
use Rattle.csl_elements.specs.declared.taxonomy.NumberVariable.{NumberVariable}
use Rattle.csl_elements.specs.declared.taxonomy.StandardVariable.{StandardVariable}
use Rattle.csl_elements.specs.declared.taxonomy.NameVariable.{NameVariable}
use Rattle.csl_elements.specs.declared.taxonomy.DateVariable.{DateVariable}
use Rattle.csl_elements.specs.declared.taxonomy.Kind.{Kind}
use Rattle.csl_elements.specs.contracts.taxonomy.NumberVariable.{the_type as the_number}
use Rattle.csl_elements.specs.contracts.taxonomy.StandardVariable.{the_type as the_standard}
use Rattle.csl_elements.specs.contracts.taxonomy.NameVariable.{the_type as the_name}
use Rattle.csl_elements.specs.contracts.taxonomy.DateVariable.{the_type as the_date}
use Rattle.csl_elements.specs.contracts.taxonomy.Kind.{the_type as the_kind}
use Rattle.lit_model.specs.declared.date.Date.{Date}
use Rattle.lit_model.specs.declared.maybe_typed.MaybeTyped.{MaybeTyped}
use Rattle.lit_model.specs.declared.numeric.Numeric.{Numeric}
use Rattle.lit_model.specs.declared.person.Person.{Person}
use Rattle.lit_model.specs.declared.text.FormatString.{FormatString}
use Rattle.lit_model.specs.Person.{PersonView, person_view}

-- the first number of a variable
abbrev pub number_in : NumberVariable → List (NumberVariable × MaybeTyped Numeric)
    → Option (NumberVariable × MaybeTyped Numeric)
number_in variable answers = find (λ p. sameb the_number p.0 variable) answers

-- the first text of a variable
abbrev pub text_in : StandardVariable → List (StandardVariable × FormatString)
    → Option (StandardVariable × FormatString)
text_in variable answers = find (λ p. sameb the_standard p.0 variable) answers

-- the first date of a variable
abbrev pub date_in : DateVariable → List (DateVariable × Date) → Option (DateVariable × Date)
date_in variable answers = find (λ p. sameb the_date p.0 variable) answers

-- the first persons of a variable
abbrev pub names_in : NameVariable → List (NameVariable × Vec Person Global)
    → Option (NameVariable × Vec Person Global)
names_in variable answers = find (λ p. sameb the_name p.0 variable) answers

-- the persons of an answer, if there is one
abbrev pub persons_of : Option (NameVariable × Vec Person Global) → List PersonView
persons_of (Some p) = map person_view p.1.items
persons_of None = []

-- whether a kind is among these
abbrev pub is_in : Kind → List Kind → Bool
is_in kind kinds = list_any (λ k. sameb the_kind k kind) kinds
