use Rattle.std.proofs.Common.{sym, ap, ◌∙◌, subst}
use Rattle.csl_style.specs.Style.{StyleParts, AreDefaults}
use Rattle.csl_elements.specs.View.{view_layout}
use Rattle.csl_samples.proofs.styles.BuiltInStyle.style.Goals as goal

-- the style has the parts that it is built from
pub returns-in-Ok : goal.returns-in-Ok
returns-in-Ok c =
    let made = c.in-Ok.ensures.value in
    record {
      citation = ap (λ (s : StyleParts). view_layout s.citation) made ∙ c.in_ok-citation.ensures;
      bibliography = ap (λ (s : StyleParts). s.bibliography) made;
      macros = ap (λ (s : StyleParts). s.macros) made ∙ c.new.ensures.items;
      settings = subst AreDefaults (sym (ap (λ (s : StyleParts). s.settings) made)) c.default-settings.ensures;
      locales = (c.in_ok-locale.locale, ap (λ (s : StyleParts). s.locales) made ∙ c.in_ok-locales.ensures.items, c.in_ok-locale.ensures);
    }
