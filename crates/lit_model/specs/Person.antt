-- Persons, their roles, and groups of persons with one role, as plain data: texts as bytes.
use Rattle.std.specs.Prelude.{ℕ, Bool, false, List, [], map, Option, Some, None, option_map, string_bytes, flat_map, if◌then◌else◌}
use Rattle.lit_model.specs.declared.person.Person.{Person}
use Rattle.lit_model.specs.declared.person.PersonRole.{PersonRole}
use Rattle.lit_model.specs.declared.person.PersonRole.TheVariants.{Unknown}
use Rattle.lit_model.specs.contracts.person.PersonRolePartialEq.TheImpl.{eq-value}
use Rattle.lit_model.specs.declared.person.PersonsWithRoles.{PersonsWithRoles}

-- a person as plain data
pub record PersonView : Type 0 where
  pub name : List ℕ
  pub given_name : Option (List ℕ)
  pub prefix : Option (List ℕ)
  pub suffix : Option (List ℕ)
  pub alias : Option (List ℕ)
  pub comma_suffix : Bool

abbrev pub person_view : Person → PersonView
person_view p = record {
  name = string_bytes p.name;
  given_name = option_map string_bytes p.given_name;
  prefix = option_map string_bytes p.prefix;
  suffix = option_map string_bytes p.suffix;
  alias = option_map string_bytes p.alias;
  comma_suffix = p.comma_suffix;
}

-- a person with only a name and a given name; `institution_of` has only a name
abbrev pub person_of : List ℕ → List ℕ → PersonView
person_of name given = record { name = name; given_name = Some given; prefix = None; suffix = None; alias = None; comma_suffix = false }

abbrev pub institution_of : List ℕ → PersonView
institution_of name = record { name = name; given_name = None; prefix = None; suffix = None; alias = None; comma_suffix = false }

-- a role: a known one, or the text of any other
pub data Role : Type 0 where
  known : PersonRole → Role
  unknown : List ℕ → Role

abbrev pub role_of : PersonRole → Role
role_of (Unknown text) = unknown (string_bytes text)
role_of role = known role

-- whether the two roles are equal (`==`)
abbrev pub same_role : PersonRole → PersonRole → Bool
same_role = eq-value.it

-- persons with one role
pub record RoleGroup : Type 0 where
  pub names : List PersonView
  pub role : Role

abbrev pub role_group : PersonsWithRoles → RoleGroup
role_group g = record { names = map person_view g.names.items; role = role_of g.role }

-- the persons of the groups whose role passes a test, in order
abbrev pub with_role : (PersonRole → Bool) → List PersonsWithRoles → List Person
with_role is groups = flat_map (λ g. if is g.role then g.names.items else []) groups
