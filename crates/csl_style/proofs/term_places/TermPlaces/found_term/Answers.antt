use Rattle.std.proofs.Common.{◌≡◌, map, sym, ap, ◌∙◌, slice_index_or, None, Some, option_map}
use Rattle.csl_common.specs.Lists.{first_some}
use Rattle.csl_elements.specs.Locale.{term_view, terms_of}
use Rattle.csl_elements.specs.Term.{in_form}
use Rattle.csl_elements.specs.declared.term.TermForm.TheVariants.{Long}
use Rattle.csl_style.proofs.FirstSome.{first_some_here, first_some_past}
use Rattle.csl_style.proofs.term_places.TermPlaces.found_term.Goals as goal

pub loop-form-preserved : goal.loop-form-preserved
loop-form-preserved c =
    let none : in_form (map terms_of c.args.locales.now) c.args.term (slice_index_or c.forms_for-form-items.result.now c.loop-form.form-index Long) ≡ None = sym c.in_form.ensures ∙ ap (λ r. option_map (λ entry. term_view entry.now) r) c.in_default.is in
    sym (first_some_past (in_form (map terms_of c.args.locales.now) c.args.term) c.forms_for-form-items.result.now c.loop-form.form-index Long none c.loop-form-test.true)
    ∙ c.loop-form.invariant

pub returns-in-Some : goal.returns-in-Some
returns-in-Some c =
    let found : in_form (map terms_of c.args.locales.now) c.args.term (slice_index_or c.forms_for-form-items.result.now c.loop-form.form-index Long) ≡ Some (term_view c.in-Some.entry.now) = sym c.in_form.ensures ∙ ap (λ r. option_map (λ entry. term_view entry.now) r) c.in-Some.is in
    sym (first_some_here (in_form (map terms_of c.args.locales.now) c.args.term) c.forms_for-form-items.result.now c.loop-form.form-index Long (term_view c.in-Some.entry.now) found c.loop-form-test.true)
    ∙ (c.loop-form.invariant ∙ ap (first_some (in_form (map terms_of c.args.locales.now) c.args.term)) c.forms_for-form-items.ensures)
