use Rattle.std.proofs.Common.{◌≡◌, ◌<◌, ◌∙◌, ap, sym, length, arith, ℕ, List, slice_index_or, Vec, Global, Option}
use Rattle.std.specs.List.{All}
use Rattle.csl_entry.specs.declared.forms.name_form.DisambiguatedNameForm.{DisambiguatedNameForm}
use Rattle.csl_entry.specs.NameProperties.{NameForms}
use Rattle.csl_entry.proofs.FormLists.{holds_there, holds_at, stands_at}
use Rattle.csl_entry.proofs.forms.name_properties.NameDisambiguationProperties.can_disambiguate.Goals as goal

-- the list has each of the places
abbrev HoldsEach : List ℕ → NameForms → Type 0
HoldsEach places forms = All (λ k. k < length forms) places

pub returns-in-Some-get : goal.returns-in-Some-get
returns-in-Some-get c =
    let place = c.in-Some.position in
    let lists = c.args.self.now.name_forms.items in
    let places = c.args.items.now in
    let v = c.in-Some-get.forms.now in
    let lookup = c.in-Some-get.ensures.lookup in
    let inside : place < length lists = omega (arith, lookup.3.0, ap length c.deref.ensures.value) in
    let is : v ≡ slice_index_or lists place v = lookup.1 ∙ ap (λ (xs : List (Vec (Option DisambiguatedNameForm) Global)). slice_index_or xs place v) c.deref.ensures.value in
    let as_long = ap length c.deref-in-Some-get.ensures.value in (
      λ yes. holds_there _ lists place v (HoldsEach places) c.in-Some.ensures inside is (λ k d within. omega (arith, c.holds_each.ensures.0 yes k d within, as_long)),
      λ h. c.holds_each.ensures.1 (λ k d within. omega (arith, holds_at lists place v (HoldsEach places) (h place (sym c.in-Some.ensures)) is k d within, as_long)),
    )

pub returns-in-None : goal.returns-in-None
returns-in-None c =
    let place = c.in-Some.position in
    let lists = c.args.self.now.name_forms.items in (
      λ yes. let no : ⊥ = cc in absurd no,
      λ h. absurd (omega (arith, stands_at lists place (HoldsEach c.args.items.now) (h place (sym c.in-Some.ensures)), c.in-None.ensures.lookup.3, ap length c.deref.ensures.value)),
    )
