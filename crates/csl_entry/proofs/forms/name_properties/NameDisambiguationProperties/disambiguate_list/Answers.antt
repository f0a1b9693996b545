use Rattle.std.proofs.Common.{◌<◌, ◌≡◌, ◌∙◌, ap, sym, length, arith, ℕ, List}
use Rattle.std.specs.List.{All}
use Rattle.csl_entry.specs.NameProperties.{NameForms, NameProperties, disambiguated_forms}
use Rattle.csl_entry.proofs.FormLists.{changed_at, stands_at, holds_at, same_after, same_there, with_lists}
use Rattle.csl_entry.proofs.forms.name_properties.NameDisambiguationProperties.disambiguate_list.Goals as goal

-- the list has each of the places
abbrev HoldsEach : List ℕ → NameForms → Type 0
HoldsEach places forms = All (λ k. k < length forms) places

pub index_mut-requires : goal.index_mut-requires
index_mut-requires c =
    let lists = c.args.self.now.name_forms in
    let place = c.in-Some.place in
    omega (arith, stands_at lists.items place (HoldsEach c.args.items.now) (c.requires place (sym c.in-Some.ensures)), lists.ok.0)

pub disambiguate_forms-requires : goal.disambiguate_forms-requires
disambiguate_forms-requires c =
    let lists = c.args.self.now.name_forms.items in
    let place = c.in-Some.place in
    let holds = holds_at lists place c.index_mut.result.now (HoldsEach c.args.items.now) (c.requires place (sym c.in-Some.ensures)) c.index_mut.ensures.value in
    λ k d within. omega (arith, holds k d within, ap length c.deref_mut.ensures.value)

pub returns-clause-after : goal.returns-clause-after
returns-clause-after c =
    let lists = c.args.self.now.name_forms.items in
    let place = c.in-Some.place in
    let change = disambiguated_forms c.args.self.now.default_name_form c.args.items.now in
    let inside = stands_at lists place (HoldsEach c.args.items.now) (c.requires place (sym c.in-Some.ensures)) in
    changed_at c.args.self.now _ place c.index_mut.result.now change c.disambiguate_forms.new.forms c.in-Some.ensures inside c.index_mut.ensures.value
    (omega (arith, c.disambiguate_forms.auto.forms, c.deref_mut.ensures.len))
    (c.disambiguate_forms.ensures.forms ∙ ap change c.deref_mut.ensures.value)

pub returns-clause-answer : goal.returns-clause-answer
returns-clause-answer c =
    let self = c.args.self.now in
    let lists = self.name_forms.items in
    let place = c.in-Some.place in
    let v = c.index_mut.result.now in
    let inside = stands_at lists place (HoldsEach c.args.items.now) (c.requires place (sym c.in-Some.ensures)) in
    let as_long : length c.disambiguate_forms.new.forms ≡ v.len = omega (arith, c.disambiguate_forms.auto.forms, c.deref_mut.ensures.len) in (
      λ h. ap (with_lists self) (same_after lists place v c.disambiguate_forms.new.forms inside c.index_mut.ensures.value as_long (c.disambiguate_forms.ensures.answer.0 h ∙ c.deref_mut.ensures.value)),
      λ e. c.disambiguate_forms.ensures.answer.1 (same_there lists place v c.disambiguate_forms.new.forms inside c.index_mut.ensures.value as_long (ap (λ (p : NameProperties). p.lists) e) ∙ sym c.deref_mut.ensures.value),
    )
