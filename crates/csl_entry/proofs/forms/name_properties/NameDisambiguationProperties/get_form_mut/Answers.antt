use Rattle.std.proofs.Common.{◌≡◌, ap, sym, refl, ◌∙◌, arith, Option, Some, is_some, unwrap_or, option_and_then, if◌then◌else◌}
use Rattle.csl_entry.specs.declared.forms.name_form.DisambiguatedNameForm.{DisambiguatedNameForm}
use Rattle.csl_entry.specs.NameProperties.{name_properties, form_at, with_form_at}
use Rattle.csl_entry.proofs.FormLists.{with_lists}
use Rattle.csl_entry.proofs.ShownForms.{list_inside, lent_at, hidden_at}
use Rattle.csl_entry.proofs.forms.name_properties.NameDisambiguationProperties.get_form_mut.Goals as goal

pub list_mut-requires : goal.list_mut-requires
list_mut-requires c =
    let lists = c.args.self.now.name_forms in
    omega (arith, list_inside lists.items c.args.idx (c.in-Some.list, c.in-Some.place) c.in-Some.ensures, lists.ok.0)

pub shown_mut-requires : goal.shown_mut-requires
shown_mut-requires c = (lent_at c.args.self.now.name_forms.items c.args.idx (c.in-Some.list, c.in-Some.place) c.list_mut.result.now c.in-Some.ensures c.list_mut.ensures.value).shown

pub returns-in-Some : goal.returns-in-Some
returns-in-Some c =
    let self = c.args.self.now in
    let p = name_properties self in
    let i = c.args.idx in
    let lent = lent_at self.name_forms.items i (c.in-Some.list, c.in-Some.place) c.list_mut.result.now c.in-Some.ensures c.list_mut.ensures.value in
    let found : form_at i p ≡ Some c.shown_mut.result.now = ap (λ (o : Option (Option DisambiguatedNameForm)). option_and_then (λ f. f) o) (lent.form ∙ c.shown_mut.ensures.value) in
    let writes = λ (w : DisambiguatedNameForm). ap (with_lists self) (lent.written w)
    ∙ sym (ap (λ (o : Option DisambiguatedNameForm). if is_some o then with_lists self (with_form_at i w p.lists) else record p { default_form = w }) found) in
    ((refl, writes, refl), record { writes_back = tt; value = sym (ap (λ (o : Option DisambiguatedNameForm). unwrap_or o p.default_form) found) })

pub returns-in-None : goal.returns-in-None
returns-in-None c =
    let self = c.args.self.now in
    let p = name_properties self in
    let i = c.args.idx in
    let absent = hidden_at 0 i p.lists (sym c.in-None.ensures) in
    let writes = λ (w : DisambiguatedNameForm). sym (ap (λ (o : Option DisambiguatedNameForm). if is_some o then with_lists self (with_form_at i w p.lists) else record p { default_form = w }) absent) in
    ((refl, writes, refl), record { writes_back = tt; value = sym (ap (λ (o : Option DisambiguatedNameForm). unwrap_or o p.default_form) absent) })
