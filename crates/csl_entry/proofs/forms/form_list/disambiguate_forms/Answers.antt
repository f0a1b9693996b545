use Rattle.std.proofs.Common.{◌<◌, ◌||◌, ◌∙◌, sym, ap, Bool, Option, is_some, length, slice_index_or, slice_set, take, None, ◌+◌, subst, arith}
use Rattle.std.specs.Option.{option_or}
use Rattle.csl_entry.specs.declared.forms.name_form.DisambiguatedNameForm.{DisambiguatedNameForm}
use Rattle.csl_entry.specs.NameProperties.{NameForms}
use Rattle.csl_entry.proofs.ToldApart.{IsToldApart, told_none, told_more, told_answer}
use Rattle.csl_entry.proofs.forms.form_list.disambiguate_forms.Goals as goal

pub loop-place-init : goal.loop-place-init
loop-place-init c = told_none c.args.default c.args.forms.now

pub loop-place-preserved : goal.loop-place-preserved
loop-place-preserved c =
    let i = c.loop-place.place-index in
    let k = slice_index_or c.args.places.now i 0 in
    let now = c.loop-place.forms in
    let inside : k < length now = omega (arith, c.requires i 0 c.loop-place-test.true, c.loop-place.auto.forms) in
    let told = told_more c.args.default c.args.places.now i c.args.forms.now now c.loop-place.changed c.loop-place-test.true inside c.loop-place.invariant in
    let next = c.or.ensures ∙ ap (λ (f : Option DisambiguatedNameForm). option_or f (slice_index_or now k None)) c.further-next.ensures in
    let more = c.is_some-changed.ensures ∙ ap is_some c.further-next.ensures in
    subst (λ (y : NameForms × Bool). IsToldApart c.args.default (take (i + 1) c.args.places.now) c.args.forms.now y.0 y.1) (λ j. (slice_set now k (sym next j), c.loop-place.changed || sym more j)) told

pub returns-clause-answer : goal.returns-clause-answer
returns-clause-answer c = (λ h. c.loop-place.invariant.still h, λ e. told_answer _ _ _ c.loop-place.invariant.moved e)
