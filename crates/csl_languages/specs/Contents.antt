-- What the locale of a language holds (CSL 1.0.2, Locale), its *contents*: a term, an ordinal and a
-- part of a date for each row of its tables, in the order of the rows, and its options.
-- - The words that most styles print come first: each has a form, a text and at most a gender.
-- - The term of a row has its form, its singular, and its plural if that differs, and no gender.
-- - The term of a row with a gender is in the long form: a term has its gender there alone.
-- - There are two localized dates, the numeric one first. A part of a date has at most a form and
--   affixes.
-- A row refers to its texts: a row of the code by a borrow (`Bor`), and one of a constant by a
-- record of the text alone (`Lent`).
use Rattle.std.specs.Prelude.{◌≡◌, ℕ, Bool, false, List, [], ◌∷◌, ◌++◌, map, Option, Some, None, option_map}
use Rattle.std.specs.Borrow.{Bor}
use Rattle.csl_common.specs.declared.ordinal.GrammarGender.{GrammarGender}
use Rattle.csl_elements.specs.declared.date.DateAnyForm.{DateAnyForm}
use Rattle.csl_elements.specs.declared.date.DateForm.{DateForm}
use Rattle.csl_elements.specs.declared.date.DateForm.TheVariants.{Numeric, Text}
use Rattle.csl_elements.specs.declared.date.DatePartName.{DatePartName}
use Rattle.csl_elements.specs.declared.locale.Locale.{Locale}
use Rattle.csl_elements.specs.declared.locale.OrdinalMatch.{OrdinalMatch}
use Rattle.csl_elements.specs.declared.locale.OrdinalSlot.{OrdinalSlot}
use Rattle.csl_elements.specs.declared.term.OtherTerm.{OtherTerm}
use Rattle.csl_elements.specs.declared.term.Term.{Term}
use Rattle.csl_elements.specs.declared.term.Term.TheVariants.{Other}
use Rattle.csl_elements.specs.declared.term.TermForm.{TermForm}
use Rattle.csl_elements.specs.declared.term.TermForm.TheVariants.{Long}
use Rattle.csl_elements.specs.Constructors.{no_dressing}
use Rattle.csl_elements.specs.Locale.{TermView, OrdinalView, terms_of, ordinals_of}
use Rattle.csl_elements.specs.NamesParts.{no_formatting}
use Rattle.csl_elements.specs.Node.{DateNode, DatePartNode}
use Rattle.csl_elements.specs.View.{view_date}
use Rattle.csl_languages.specs.declared.words.Tables.{Tables}

-- ---- rows that refer to their texts by a `P`

abbrev pub WordRow : Type 0 → Type 0
WordRow P = OtherTerm × TermForm × P × Option GrammarGender

abbrev pub TermRow : Type 0 → Type 0
TermRow P = Term × TermForm × P × Option P

abbrev pub GenderedTermRow : Type 0 → Type 0
GenderedTermRow P = Term × GrammarGender × P × Option P

abbrev pub OrdinalRow : Type 0 → Type 0
OrdinalRow P = OrdinalSlot × Option OrdinalMatch × Option GrammarGender × P

abbrev pub DatePartRow : Type 0 → Type 0
DatePartRow P = DatePartName × Option DateAnyForm × Option P × Option P

module _ {P : Type 0} (text : P → List ℕ) where
  abbrev pub word_by : WordRow P → TermView
  word_by row = record { term = Other row.0; form = row.1; single = text row.2; multiple = None; gender = row.3 }

  abbrev pub term_by : TermRow P → TermView
  term_by row = record { term = row.0; form = row.1; single = text row.2; multiple = option_map text row.3; gender = None }

  abbrev pub gendered_term_by : GenderedTermRow P → TermView
  gendered_term_by row = record { term = row.0; form = Long; single = text row.2; multiple = option_map text row.3; gender = Some row.1 }

  abbrev pub ordinal_by : OrdinalRow P → OrdinalView
  ordinal_by row = record { slot = row.0; matching = row.1; gender = row.2; text = text row.3 }

  abbrev pub date_part_by : DatePartRow P → DatePartNode
  date_part_by row = record {
    name = row.0;
    form = row.1;
    formatting = no_formatting;
    affixes = record { prefix = option_map text row.2; suffix = option_map text row.3 };
    strip_periods = false;
  }

  -- the localized date of a form
  abbrev pub date_by : DateForm → List (DatePartRow P) → DateNode
  date_by form rows = record {
    variable = None;
    form = Some form;
    parts = None;
    date_part = map date_part_by rows;
    delimiter = None;
    dressing = no_dressing;
  }

-- ---- the rows of the code

abbrev pub borrowed : Bor (List ℕ) → List ℕ
borrowed t = t.now

abbrev pub term_of_word : WordRow (Bor (List ℕ)) → TermView
term_of_word row = word_by borrowed row

abbrev pub term_of_row : TermRow (Bor (List ℕ)) → TermView
term_of_row row = term_by borrowed row

abbrev pub gendered_term_of_row : GenderedTermRow (Bor (List ℕ)) → TermView
gendered_term_of_row row = gendered_term_by borrowed row

abbrev pub ordinal_of_row : OrdinalRow (Bor (List ℕ)) → OrdinalView
ordinal_of_row row = ordinal_by borrowed row

abbrev pub date_part_of_row : DatePartRow (Bor (List ℕ)) → DatePartNode
date_part_of_row row = date_part_by borrowed row

abbrev pub date_of_rows : DateForm → List (DatePartRow (Bor (List ℕ))) → DateNode
date_of_rows form rows = date_by borrowed form rows

-- ---- contents

pub record Contents : Type 0 where
  pub terms : List TermView
  pub ordinals : List OrdinalView
  pub dates : List DateNode
  pub punctuation_in_quote : Bool
  pub day_ordinals : Bool

-- the locale holds these contents and nothing else
pub record HasContents (contents : Contents) (locale : Locale) : Type 0 where
  pub terms : terms_of locale ≡ contents.terms
  pub ordinals : ordinals_of locale ≡ contents.ordinals
  pub dates : map view_date locale.dates.items ≡ contents.dates
  pub punctuation_in_quote : locale.punctuation_in_quote ≡ contents.punctuation_in_quote
  pub day_ordinals : locale.limit_day_ordinals_to_day_1 ≡ contents.day_ordinals

-- those of a language in the code
abbrev pub contents_of_tables : Tables → Contents
contents_of_tables g = record {
  terms = (map term_of_word g.words.now ++ map term_of_row g.terms.now) ++ map gendered_term_of_row g.gendered_terms.now;
  ordinals = map ordinal_of_row g.ordinals.now;
  dates = date_of_rows Numeric g.numeric_date.now ∷ date_of_rows Text g.text_date.now ∷ [];
  punctuation_in_quote = g.punctuation_in_quote;
  day_ordinals = g.limit_day_ordinals_to_day_1;
}

-- a text that a constant refers to
abbrev pub Lent : Type 0
Lent = record { now : List ℕ }

abbrev lent : Lent → List ℕ
lent t = t.now

-- the contents that tables and options say: words, terms, terms with a gender, ordinals, the numeric
-- date and the one in words; whether punctuation goes into quotes, and whether ordinal days are
-- limited to the first
abbrev pub contents_of : List (WordRow Lent) → List (TermRow Lent) → List (GenderedTermRow Lent) → List (OrdinalRow Lent) → List (DatePartRow Lent) → List (DatePartRow Lent) → Bool → Bool → Contents
contents_of words terms gendered ordinals numeric written quotes days = record {
  terms = (map (word_by lent) words ++ map (term_by lent) terms) ++ map (gendered_term_by lent) gendered;
  ordinals = map (ordinal_by lent) ordinals;
  dates = date_by lent Numeric numeric ∷ date_by lent Text written ∷ [];
  punctuation_in_quote = quotes;
  day_ordinals = days;
}
