use Rattle.std.proofs.Common.{◌∙◌, ap}
use Rattle.std.specs.Prelude.{option_map}
use Rattle.csl_tree.specs.Content.{◌++>◌}
use Rattle.csl_context.specs.Texts.{optional_formatted_text, text_in_if}
use Rattle.csl_context.specs.Quotes.{quote_text, closing_quote, moved_punctuation}
use Rattle.csl_context.proofs.context.Context.closing_affix.Goals as goal

pub returns : goal.returns
returns g c =
    let now = c.args.self.now in
    let front = option_map (λ t. t.now) c.moved_punctuation-front.result in
    let close = option_map (λ t. t.now) c.quote_text-close.result in
    c.in_ok-affix.ensures
    ∙ ap (λ s. optional_formatted_text s c.text_writer.result.formatting front ++> optional_formatted_text s c.text_writer.result.formatting close) c.text_writer.ensures.strip_periods
    ∙ ap (λ f. optional_formatted_text now.inherited.strip_periods f front ++> optional_formatted_text now.inherited.strip_periods f close) c.text_writer.ensures.formatting
    ∙ ap (λ o. text_in_if now.inherited o ++> text_in_if now.inherited close) c.moved_punctuation-front.ensures
    ∙ ap (λ o. text_in_if now.inherited (moved_punctuation now.style (option_map (λ t. t.now) c.args.suffix)) ++> text_in_if now.inherited o) (c.quote_text-close.ensures ∙ ap (quote_text now.style) (c.closing_quote.ensures ∙ ap closing_quote c.in_quotes.ensures))
