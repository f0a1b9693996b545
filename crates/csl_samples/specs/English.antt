-- The English locale of the built-in styles (CSL 1.0.2, Locale), `IsEnglish`.
-- - Terms with one text, only in the long form: `and`, `et al.`, the dash of page ranges, outer and
--   inner quotes, and the twelve months.
-- - Terms for pages and volumes, for one and for several, in the long and the short form.
-- - Ordinals without a gender: `th`; `st`, `nd` and `rd` for 1, 2 and 3; `th` for 11, 12 and 13.
-- - A comma or period goes before a closing quote. Ordinal days are not limited to the first of a
--   month. There are no localized dates and no other terms.
use Rattle.std.specs.Prelude.{◌≡◌, ℕ, true, false, List, [], ◌∷◌, ◌++◌, Some, None, codes}
use Rattle.std.specs.Borrow.{Bor}
use Rattle.csl_elements.specs.declared.locale.Locale.{Locale}
use Rattle.csl_elements.specs.declared.locale.OrdinalSlot.{OrdinalSlot}
use Rattle.csl_elements.specs.declared.locale.OrdinalSlot.TheVariants.{Default, Two}
use Rattle.csl_elements.specs.declared.taxonomy.NumberVariable.TheVariants.{Volume}
use Rattle.csl_elements.specs.declared.taxonomy.PageVariable.TheVariants as pages
use Rattle.csl_elements.specs.declared.term.OtherTerm.{OtherTerm}
use Rattle.csl_elements.specs.declared.term.OtherTerm.TheVariants as others
use Rattle.csl_elements.specs.declared.term.Term.{Term}
use Rattle.csl_elements.specs.declared.term.Term.TheVariants.{Number, Page, Other}
use Rattle.csl_elements.specs.declared.term.TermForm.{TermForm}
use Rattle.csl_elements.specs.declared.term.TermForm.TheVariants.{Long, Short}
use Rattle.csl_elements.specs.Locale.{TermView, OrdinalView, terms_of, ordinals_of}

-- a term with one text, in its long form
abbrev pub word : OtherTerm → List ℕ → TermView
word term text = record { term = Other term; form = Long; single = text; multiple = None; gender = None }

-- a term with a text for one and another for several
abbrev pub term_with_plural : Term → TermForm → List ℕ → List ℕ → TermView
term_with_plural term form one several = record { term = term; form = form; single = one; multiple = Some several; gender = None }

-- The dash is –, the outer quotes are “ and ”, and the inner ones ‘ and ’, each in UTF-8.
abbrev pub english_words : List TermView
english_words =
    word others.And (codes "and")
    ∷ word others.EtAl (codes "et al.")
    ∷ word others.PageRangeDelimiter (226 ∷ 128 ∷ 147 ∷ [])
    ∷ word others.OpenQuote (226 ∷ 128 ∷ 156 ∷ [])
    ∷ word others.CloseQuote (226 ∷ 128 ∷ 157 ∷ [])
    ∷ word others.OpenInnerQuote (226 ∷ 128 ∷ 152 ∷ [])
    ∷ word others.CloseInnerQuote (226 ∷ 128 ∷ 153 ∷ [])
    ∷ word (others.Month 0) (codes "January")
    ∷ word (others.Month 1) (codes "February")
    ∷ word (others.Month 2) (codes "March")
    ∷ word (others.Month 3) (codes "April")
    ∷ word (others.Month 4) (codes "May")
    ∷ word (others.Month 5) (codes "June")
    ∷ word (others.Month 6) (codes "July")
    ∷ word (others.Month 7) (codes "August")
    ∷ word (others.Month 8) (codes "September")
    ∷ word (others.Month 9) (codes "October")
    ∷ word (others.Month 10) (codes "November")
    ∷ word (others.Month 11) (codes "December")
    ∷ []

abbrev pub english_counted : List TermView
english_counted =
    term_with_plural (Page pages.Page) Long (codes "page") (codes "pages")
    ∷ term_with_plural (Page pages.Page) Short (codes "p.") (codes "pp.")
    ∷ term_with_plural (Number Volume) Long (codes "volume") (codes "volumes")
    ∷ term_with_plural (Number Volume) Short (codes "vol.") (codes "vols.")
    ∷ []

-- an ordinal without a gender; its slot alone decides which digits it matches
abbrev pub ordinal : OrdinalSlot → List ℕ → OrdinalView
ordinal slot text = record { slot = slot; matching = None; gender = None; text = text }

abbrev pub english_ordinals : List OrdinalView
english_ordinals =
    ordinal Default (codes "th")
    ∷ ordinal (Two 1) (codes "st")
    ∷ ordinal (Two 2) (codes "nd")
    ∷ ordinal (Two 3) (codes "rd")
    ∷ ordinal (Two 11) (codes "th")
    ∷ ordinal (Two 12) (codes "th")
    ∷ ordinal (Two 13) (codes "th")
    ∷ []

pub record IsEnglish (locale : Locale) : Type 0 where
  pub terms : terms_of locale ≡ english_words ++ english_counted
  pub ordinals : ordinals_of locale ≡ english_ordinals
  pub dates : locale.dates.items ≡ []
  pub punctuation_in_quote : locale.punctuation_in_quote ≡ true
  pub day_ordinals : locale.limit_day_ordinals_to_day_1 ≡ false

-- ---- the rows of the code's tables

abbrev pub word_of_row : OtherTerm × Bor (List ℕ) → TermView
word_of_row row = word row.0 row.1.now

abbrev pub ordinal_of_row : OrdinalSlot × Bor (List ℕ) → OrdinalView
ordinal_of_row row = ordinal row.0 row.1.now
