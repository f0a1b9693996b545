-- `==` of persons compares their texts and the comma. `==` of groups compares persons and role.
use Rattle.std.proofs.Common.{◌≡◌, ap, rules}
use Rattle.std.specs.Bool.{Decides, beq}
use Rattle.lit_model.specs.Person.{PersonView, person_view, role_of, RoleGroup, role_group}
use Rattle.lit_model.specs.declared.person.Person.{Person}
use Rattle.lit_model.specs.declared.person.PersonRole.{PersonRole}
use Rattle.lit_model.specs.declared.person.PersonsWithRoles.{PersonsWithRoles}
use Rattle.lit_model.specs.contracts.person.PersonPartialEq.TheImpl.{eq-value as eq_person}
use Rattle.lit_model.specs.contracts.person.PersonRolePartialEq.TheImpl.{eq-value as eq_role}
use Rattle.lit_model.specs.contracts.person.PersonsWithRolesPartialEq.TheImpl.{eq-value as eq_group}
use Rattle.lit_model.proofs.PageEqual.{pointwise_view}
use Rattle.lit_model.proofs.ByValue.{both, through, text_decides, optional_text}

commas_decide : (a b : Person) → Decides (beq a.comma_suffix b.comma_suffix) (a.comma_suffix ≡ b.comma_suffix)
commas_decide a b = search rules

pub person_decides : (a b : Person) → Decides (eq_person.it a b) (person_view a ≡ person_view b)
person_decides a b = through _ (both _ _ (text_decides a.name b.name) (both _ _ (optional_text a.given_name b.given_name) (both _ _ (optional_text a.prefix b.prefix) (both _ _ (optional_text a.suffix b.suffix) (both _ _ (optional_text a.alias b.alias) (commas_decide a b))))))
    (λ h. let e = h.0 in let f = h.1.0 in let g = h.1.1.0 in let i = h.1.1.1.0 in let j = h.1.1.1.1.0 in let k = h.1.1.1.1.1 in cc)
    (λ h. (ap (λ (n : PersonView). n.name) h, (ap (λ (n : PersonView). n.given_name) h, (ap (λ (n : PersonView). n.prefix) h, (ap (λ (n : PersonView). n.suffix) h, (ap (λ (n : PersonView). n.alias) h, ap (λ (n : PersonView). n.comma_suffix) h))))))

pub role_decides : (a b : PersonRole) → Decides (eq_role.it a b) (role_of a ≡ role_of b)
role_decides a b = search rules

pub group_decides : (a b : PersonsWithRoles) → Decides (eq_group.it a b) (role_group a ≡ role_group b)
group_decides a b = through _ (both _ _ (pointwise_view eq_person.it person_view person_decides a.names.items b.names.items) (role_decides a.role b.role))
    (λ h. let e = h.0 in let f = h.1 in cc)
    (λ h. (ap (λ (g : RoleGroup). g.names) h, ap (λ (g : RoleGroup). g.role) h))
