-- A locale with the contents of a language has those of its tables, and begins with its words.
use Rattle.std.proofs.Common.{◌≡◌, List, ◌++◌, ap, ◌∙◌, append_assoc}
use Rattle.csl_elements.specs.declared.locale.Locale.{Locale}
use Rattle.csl_elements.specs.Locale.{TermView, terms_of}
use Rattle.csl_languages.specs.Contents.{Contents, HasContents}
use Rattle.csl_languages.specs.Words.{Words, terms_of_words, BeginsWith}

pub same_contents : (locale : Locale) (a b : Contents) → HasContents a locale → a ≡ b → HasContents b locale
same_contents locale a b has e = record {
  terms = has.terms ∙ ap (λ (c : Contents). c.terms) e;
  ordinals = has.ordinals ∙ ap (λ (c : Contents). c.ordinals) e;
  dates = has.dates ∙ ap (λ (c : Contents). c.dates) e;
  punctuation_in_quote = has.punctuation_in_quote ∙ ap (λ (c : Contents). c.punctuation_in_quote) e;
  day_ordinals = has.day_ordinals ∙ ap (λ (c : Contents). c.day_ordinals) e;
}

pub begins_with : (locale : Locale) (first others gendered : List TermView) (words : Words) → terms_of locale ≡ (first ++ others) ++ gendered → first ≡ terms_of_words words → BeginsWith words locale
begins_with locale first others gendered words has e = record {
  rest = others ++ gendered;
  terms = has ∙ append_assoc first others gendered ∙ ap (λ (ts : List TermView). ts ++ (others ++ gendered)) e;
}
