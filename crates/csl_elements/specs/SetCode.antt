-- A set of variables as a function is known by what it gives at each of the 98 variables. So it has
-- a code, and may be part of the value of a type with a model.
use Rattle.std.specs.Prelude.{◌≡◌, Bool, false, List, [], ◌∷◌, map, refl, if◌then◌else◌}
use Rattle.std.specs.Coded.{Coded, code_by, coded_bool, coded_list}
use Rattle.csl_elements.specs.contracts.taxonomy.VariablePartialEq.TheImpl.{eq-value}
use Rattle.csl_elements.specs.declared.taxonomy.StandardVariable.TheVariants as standards
use Rattle.csl_elements.specs.declared.taxonomy.NumberVariable.TheVariants as numbers
use Rattle.csl_elements.specs.declared.taxonomy.PageVariable.TheVariants as pages
use Rattle.csl_elements.specs.declared.taxonomy.DateVariable.TheVariants as dates
use Rattle.csl_elements.specs.declared.taxonomy.NameVariable.TheVariants as names
use Rattle.csl_elements.specs.declared.taxonomy.Variable.{Variable}
use Rattle.csl_elements.specs.declared.taxonomy.Variable.TheVariants as variable
use Rattle.csl_elements.specs.declared.taxonomy.all_variables.TheConstants.{VARIABLES}

-- what a set gives at each variable
pub all_members : (Variable → Bool) → List Bool
all_members set = map set VARIABLES

-- what it gives at one variable, by a list of variables and what it gives at each of them
abbrev member_at : List Variable → List Bool → Variable → Bool
member_at [] bs v = false
member_at (u ∷ us) [] v = false
member_at (u ∷ us) (b ∷ bs) v = if eq-value.it v u then b else member_at us bs v

pub same_member : (set : Variable → Bool) (v : Variable) → member_at VARIABLES (all_members set) v ≡ set v
unfolding all_members
same_member set (variable.Standard standards.Abstract) = refl
same_member set (variable.Standard _) = refl
same_member set (variable.Number numbers.ChapterNumber) = refl
same_member set (variable.Number _) = refl
same_member set (variable.Page pages.Page) = refl
same_member set (variable.Date dates.Accessed) = refl
same_member set (variable.Date _) = refl
same_member set (variable.Name names.Author) = refl
same_member set (variable.Name _) = refl

-- the code of a set
abbrev pub set_code : Coded (Variable → Bool)
set_code = code_by (List Bool) (coded_list coded_bool) all_members (member_at VARIABLES) (λ set i v. same_member set v i)
