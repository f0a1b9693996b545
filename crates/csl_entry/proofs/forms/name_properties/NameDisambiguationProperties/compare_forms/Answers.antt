use Rattle.std.proofs.Common.{◌≡◌, ◌∙◌, ap, sym, Vec, Global, Option, rules}
use Rattle.std.specs.Iterator.Adapters.{flatten_source, flatten_front, flatten_back, flatten_done}
use Rattle.std.specs.Option.{option_cmp}
use Rattle.std.specs.Slice.Iter.{iter_rest}
use Rattle.std.proofs.lemmas.Iterator.{YieldsList-from_slice}
use Rattle.std.proofs.lemmas.Iterator.Adapters.{YieldsList-from_flatten}
use Rattle.std.proofs.lemmas.Iterator.Search.{cmp_from_yields_List}
use Rattle.std.proofs.lemmas.List.Folds.{flat_map-map}
use Rattle.csl_entry.specs.declared.forms.name_form.DisambiguatedNameForm.{DisambiguatedNameForm}
use Rattle.csl_entry.specs.NameForm.{form_cmp}
use Rattle.csl_entry.specs.NameProperties.{NameForms, forms_cmp}
use Rattle.csl_entry.proofs.FormOrder.{option_form_cmp}
use Rattle.csl_entry.proofs.forms.name_properties.NameDisambiguationProperties.compare_forms.Goals as goal

pub returns : goal.returns
returns c =
    let xs = c.args.self.now.name_forms.items in
    let ys = c.args.other.now.name_forms.items in
    let items : Vec (Option DisambiguatedNameForm) Global → NameForms = λ v. v.items in
    let compared = cmp_from_yields_List (λ x y. y ≡ x) _ (option_cmp form_cmp) _ c.cmp.ensures.ran
    (YieldsList-from_flatten _ _ (λ y. y.now) items (λ x j b. YieldsList-from_slice x.now.items (search rules)) (YieldsList-from_slice xs (ap iter_rest c.flatten-forms.ensures.source ∙ c.iter.ensures.rest ∙ c.deref.ensures.value)) c.flatten-forms.ensures.front c.flatten-forms.ensures.back c.flatten-forms.ensures.done)
    (λ it e. YieldsList-from_flatten _ _ (λ y. y.now) items (λ x j b. YieldsList-from_slice x.now.items (search rules)) (YieldsList-from_slice ys (ap (λ f. iter_rest (flatten_source f)) e ∙ ap iter_rest c.flatten.ensures.source ∙ c.iter-2.ensures.rest ∙ c.deref-2.ensures.value)) (ap flatten_front e ∙ c.flatten.ensures.front) (ap flatten_back e ∙ c.flatten.ensures.back) (ap flatten_done e ∙ c.flatten.ensures.done))
    (λ x y. option_form_cmp x.now y.now) in
    compared ∙ sym (λ i. forms_cmp (flat_map-map (λ (forms : NameForms). forms) items xs i) (flat_map-map (λ (forms : NameForms). forms) items ys i))
