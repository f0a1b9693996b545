use Rattle.std.proofs.Common.{◌≡◌, ◌∙◌, ap, sym, length, vec_len, nat_le, rules, tests, Vec, Global, Option, Bool}
use Rattle.std.specs.List.{position}
use Rattle.std.proofs.lemmas.Iterator.{YieldsList-from_slice}
use Rattle.std.proofs.lemmas.Iterator.Search.{position_from_yields_List}
use Rattle.csl_entry.specs.declared.forms.name_form.DisambiguatedNameForm.{DisambiguatedNameForm}
use Rattle.csl_entry.proofs.FormLists.{position_map}
use Rattle.csl_entry.proofs.forms.name_properties.NameDisambiguationProperties.first_as_long.Goals as goal

pub returns : goal.returns
returns c =
    let num = c.args.num in
    let lists = c.args.self.now.name_forms.items in
    let found : c.position.result ≡ position (λ v. nat_le num (vec_len v)) lists = position_from_yields_List (λ v. nat_le num (vec_len v)) _ _ _ c.position.ensures.ran (YieldsList-from_slice lists cc) (λ x b q k. search (rules, tests)) in
    found
    ∙ ap (λ (p : Vec (Option DisambiguatedNameForm) Global → Bool). position p lists) (λ i v. nat_le num (v.ok.0 i))
    ∙ sym (position_map (λ forms. nat_le num (length forms)) (λ v. v.items) lists)
