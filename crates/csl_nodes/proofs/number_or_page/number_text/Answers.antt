use Rattle.std.proofs.Common.{◌≡◌, map, string_bytes, ap₂, ◌∙◌, rules}
use Rattle.std.proofs.lemmas.Fmt.{contents_after_writes}
use Rattle.lit_model.specs.Numeric.{numeric_view}
use Rattle.lit_model.specs.NumericForm.{numeric_in_form}
use Rattle.csl_elements.specs.Locale.{ordinals_of}
use Rattle.csl_elements.specs.Ordinals.{ordinals, long_ordinals}
use Rattle.csl_context.specs.RenderInput.{number_text}
use Rattle.csl_nodes.proofs.number_or_page.number_text.Goals as goal

pub returns-in-Ok : goal.returns-in-Ok
unfolding number_text
returns-in-Ok g c =
    let locales = c.ordinal_lookup.result.locales.now in
    let written = contents_after_writes _ string_bytes (λ w bs v h. h) _ _ _ c.in-Ok.ensures in
    let is : string_bytes c.with_form.new.w ≡ numeric_in_form (ordinals (map ordinals_of locales)) (long_ordinals (map ordinals_of locales)) c.args.form c.args.gender (numeric_view c.args.number.now) = search (rules, written) in
    is ∙ ap₂ (λ f g. numeric_in_form f g c.args.form c.args.gender (numeric_view c.args.number.now)) c.ordinal_lookup.ensures.suffixes c.ordinal_lookup.ensures.words
