-- `==` of the forms that a citation keeps compares their parts.
use Rattle.std.proofs.Common.{◌≡◌, refl, ap, rules, List, Option, Vec, Global, map}
use Rattle.std.specs.Bool.{Decides}
use Rattle.std.specs.Option.{option_eq}
use Rattle.std.proofs.lemmas.Slice.Eq.{slice_eq-Decides}
use Rattle.std.specs.Cmp.Lexicographic.{pointwise}
use Rattle.csl_entry.specs.declared.forms.name_properties.NameDisambiguationProperties.{NameDisambiguationProperties}
use Rattle.csl_entry.specs.contracts.forms.name_properties.NameDisambiguationPropertiesPartialEq.TheImpl.{eq-value as eq_properties}
use Rattle.csl_entry.specs.NameProperties.{NameProperties, name_properties}
use Rattle.csl_entry.specs.declared.forms.name_form.DisambiguatedNameForm.{DisambiguatedNameForm}
use Rattle.csl_entry.specs.contracts.forms.name_form.DisambiguatedNameFormPartialEq.TheImpl.{eq-value as eq_form}
use Rattle.csl_elements.specs.declared.taxonomy.NameVariable.{NameVariable}
use Rattle.csl_elements.specs.contracts.taxonomy.NameVariablePartialEq.TheImpl.{eq-value as eq_variable}
use Rattle.lit_model.proofs.PageEqual.{pointwise_view}
use Rattle.lit_model.proofs.ByValue.{both, through, option_same}

-- the form of each name of a list
abbrev Forms : Type 0
Forms = Vec (Option DisambiguatedNameForm) Global

abbrev forms_of : Forms → List (Option DisambiguatedNameForm)
forms_of forms = forms.items

form_decides : (a b : DisambiguatedNameForm) → Decides (eq_form.it a b) (a ≡ b)
form_decides a b = search rules

variable_decides : (a b : NameVariable) → Decides (eq_variable.it a b) (a ≡ b)
variable_decides a b = search rules

forms_decide : (xs ys : List (Option DisambiguatedNameForm)) → Decides (pointwise (option_eq eq_form.it) xs ys) (xs ≡ ys)
forms_decide xs ys = slice_eq-Decides (option_same eq_form.it form_decides) xs ys _ refl

variables_decide : (xs ys : List NameVariable) → Decides (pointwise eq_variable.it xs ys) (xs ≡ ys)
variables_decide xs ys = slice_eq-Decides variable_decides xs ys _ refl

lists_decide : (xs ys : List Forms) → Decides (pointwise (λ x y. pointwise (option_eq eq_form.it) x.items y.items) xs ys) (map forms_of xs ≡ map forms_of ys)
lists_decide = pointwise_view (λ x y. pointwise (option_eq eq_form.it) x.items y.items) forms_of (λ x y. forms_decide x.items y.items)

pub properties_decide : (a b : NameDisambiguationProperties) → Decides (eq_properties.it a b) (name_properties a ≡ name_properties b)
properties_decide a b = through _ (both _ _ (form_decides a.default_name_form b.default_name_form) (both _ _ (variables_decide a.variables.items b.variables.items) (lists_decide a.name_forms.items b.name_forms.items)))
    (λ h. let e = h.0 in let f = h.1.0 in let g = h.1.1 in cc)
    (λ h. (ap (λ (p : NameProperties). p.default_form) h, (ap (λ (p : NameProperties). p.variables) h, ap (λ (p : NameProperties). p.lists) h)))
