-- The words that most styles print, in eleven languages, as CSL's own locales have them (CSL 1.0.2,
-- Locale; Appendix II, Terms): `and`, `et al.`, the outer and the inner quotes, and the months in
-- the long form and in the short one. Texts are lists of characters here, and UTF-8 in a locale.
-- Months have a gender in French and Italian, in the long form alone.
-- A locale *begins with* words if their terms are its first ones, so that a lookup in it finds them
-- whatever comes after them.
use Rattle.std.specs.Prelude.{◌≡◌, ℕ, ◌+◌, List, [], ◌∷◌, ◌++◌, Option, Some, None, codes, encode_utf8_all}
use Rattle.csl_common.specs.declared.ordinal.GrammarGender.{GrammarGender}
use Rattle.csl_common.specs.declared.ordinal.GrammarGender.TheVariants.{Masculine}
use Rattle.csl_elements.specs.declared.locale.Locale.{Locale}
use Rattle.csl_elements.specs.declared.term.OtherTerm.{OtherTerm}
use Rattle.csl_elements.specs.declared.term.OtherTerm.TheVariants.{And, EtAl, OpenQuote, CloseQuote, OpenInnerQuote, CloseInnerQuote, Month}
use Rattle.csl_elements.specs.declared.term.Term.TheVariants.{Other}
use Rattle.csl_elements.specs.declared.term.TermForm.{TermForm}
use Rattle.csl_elements.specs.declared.term.TermForm.TheVariants.{Long, Short}
use Rattle.csl_elements.specs.Locale.{TermView, terms_of}

-- The word between two names, and the one for those left out; the opening and the closing quote,
-- outer and inner; the gender of the months; each month in the long form and in the short one.
pub record Words : Type 0 where
  pub between : List ℕ
  pub others : List ℕ
  pub quotes : List ℕ × List ℕ
  pub inner_quotes : List ℕ × List ℕ
  pub month_gender : Option GrammarGender
  pub months : List (List ℕ × List ℕ)

-- ---- their terms

-- the term of a text, without a plural
abbrev pub word : OtherTerm → TermForm → Option GrammarGender → List ℕ → TermView
word term form gender text = record { term = Other term; form = form; single = encode_utf8_all text; multiple = None; gender = gender }

-- the months from this number on, each long and then short
abbrev pub month_terms : ℕ → Option GrammarGender → List (List ℕ × List ℕ) → List TermView
month_terms n gender [] = []
month_terms n gender (month ∷ months) = word (Month n) Long gender month.0 ∷ word (Month n) Short None month.1 ∷ month_terms (n + 1) gender months

abbrev pub terms_of_words : Words → List TermView
terms_of_words w =
    word And Long None w.between
    ∷ word EtAl Long None w.others
    ∷ word OpenQuote Long None w.quotes.0
    ∷ word CloseQuote Long None w.quotes.1
    ∷ word OpenInnerQuote Long None w.inner_quotes.0
    ∷ word CloseInnerQuote Long None w.inner_quotes.1
    ∷ month_terms 0 w.month_gender w.months

-- the terms of the words are the first ones of the locale
pub record BeginsWith (words : Words) (locale : Locale) : Type 0 where
  pub rest : List TermView
  pub terms : terms_of locale ≡ terms_of_words words ++ rest

-- ---- languages

abbrev no_break_space : List ℕ
no_break_space = 160 ∷ []

-- `en-US`
abbrev pub english_words : Words
english_words = record {
  between = codes "and";
  others = codes "et al.";
  quotes = (codes "“", codes "”");
  inner_quotes = (codes "‘", codes "’");
  month_gender = None;
  months =
      (codes "January", codes "Jan.")
      ∷ (codes "February", codes "Feb.")
      ∷ (codes "March", codes "Mar.")
      ∷ (codes "April", codes "Apr.")
      ∷ (codes "May", codes "May")
      ∷ (codes "June", codes "Jun.")
      ∷ (codes "July", codes "Jul.")
      ∷ (codes "August", codes "Aug.")
      ∷ (codes "September", codes "Sep.")
      ∷ (codes "October", codes "Oct.")
      ∷ (codes "November", codes "Nov.")
      ∷ (codes "December", codes "Dec.") ∷ [];
}

-- `en-GB`
abbrev pub british_english_words : Words
british_english_words = record {
  between = codes "and";
  others = codes "et al.";
  quotes = (codes "‘", codes "’");
  inner_quotes = (codes "“", codes "”");
  month_gender = None;
  months =
      (codes "January", codes "Jan.")
      ∷ (codes "February", codes "Feb.")
      ∷ (codes "March", codes "Mar.")
      ∷ (codes "April", codes "Apr.")
      ∷ (codes "May", codes "May")
      ∷ (codes "June", codes "Jun.")
      ∷ (codes "July", codes "Jul.")
      ∷ (codes "August", codes "Aug.")
      ∷ (codes "September", codes "Sep.")
      ∷ (codes "October", codes "Oct.")
      ∷ (codes "November", codes "Nov.")
      ∷ (codes "December", codes "Dec.") ∷ [];
}

-- `de-DE`
abbrev pub german_words : Words
german_words = record {
  between = codes "und";
  others = codes "u." ++ no_break_space ++ codes "a.";
  quotes = (codes "„", codes "“");
  inner_quotes = (codes "‚", codes "‘");
  month_gender = None;
  months =
      (codes "Januar", codes "Jan.")
      ∷ (codes "Februar", codes "Feb.")
      ∷ (codes "März", codes "März")
      ∷ (codes "April", codes "Apr.")
      ∷ (codes "Mai", codes "Mai")
      ∷ (codes "Juni", codes "Juni")
      ∷ (codes "Juli", codes "Juli")
      ∷ (codes "August", codes "Aug.")
      ∷ (codes "September", codes "Sep.")
      ∷ (codes "Oktober", codes "Okt.")
      ∷ (codes "November", codes "Nov.")
      ∷ (codes "Dezember", codes "Dez.") ∷ [];
}

-- `fr-FR`
abbrev pub french_words : Words
french_words = record {
  between = codes "et";
  others = codes "et al.";
  quotes = (codes "«" ++ no_break_space, no_break_space ++ codes "»");
  inner_quotes = (codes "“", codes "”");
  month_gender = Some Masculine;
  months =
      (codes "janvier", codes "janv.")
      ∷ (codes "février", codes "févr.")
      ∷ (codes "mars", codes "mars")
      ∷ (codes "avril", codes "avr.")
      ∷ (codes "mai", codes "mai")
      ∷ (codes "juin", codes "juin")
      ∷ (codes "juillet", codes "juill.")
      ∷ (codes "août", codes "août")
      ∷ (codes "septembre", codes "sept.")
      ∷ (codes "octobre", codes "oct.")
      ∷ (codes "novembre", codes "nov.")
      ∷ (codes "décembre", codes "déc.") ∷ [];
}

-- `es-ES`
abbrev pub spanish_words : Words
spanish_words = record {
  between = codes "y";
  others = codes "et" ++ no_break_space ++ codes "al.";
  quotes = (codes "«", codes "»");
  inner_quotes = (codes "“", codes "”");
  month_gender = None;
  months =
      (codes "enero", codes "ene.")
      ∷ (codes "febrero", codes "feb.")
      ∷ (codes "marzo", codes "mar.")
      ∷ (codes "abril", codes "abr.")
      ∷ (codes "mayo", codes "may")
      ∷ (codes "junio", codes "jun.")
      ∷ (codes "julio", codes "jul.")
      ∷ (codes "agosto", codes "ago.")
      ∷ (codes "septiembre", codes "sep.")
      ∷ (codes "octubre", codes "oct.")
      ∷ (codes "noviembre", codes "nov.")
      ∷ (codes "diciembre", codes "dic.") ∷ [];
}

-- `it-IT`
abbrev pub italian_words : Words
italian_words = record {
  between = codes "e";
  others = codes "et al.";
  quotes = (codes "«", codes "»");
  inner_quotes = (codes "“", codes "”");
  month_gender = Some Masculine;
  months =
      (codes "gennaio", codes "gen.")
      ∷ (codes "febbraio", codes "feb.")
      ∷ (codes "marzo", codes "mar.")
      ∷ (codes "aprile", codes "apr.")
      ∷ (codes "maggio", codes "mag.")
      ∷ (codes "giugno", codes "giu.")
      ∷ (codes "luglio", codes "lug.")
      ∷ (codes "agosto", codes "ago.")
      ∷ (codes "settembre", codes "set.")
      ∷ (codes "ottobre", codes "ott.")
      ∷ (codes "novembre", codes "nov.")
      ∷ (codes "dicembre", codes "dic.") ∷ [];
}

-- `pt-BR`
abbrev pub brazilian_portuguese_words : Words
brazilian_portuguese_words = record {
  between = codes "e";
  others = codes "et al.";
  quotes = (codes "“", codes "”");
  inner_quotes = (codes "‘", codes "’");
  month_gender = None;
  months =
      (codes "janeiro", codes "jan.")
      ∷ (codes "fevereiro", codes "fev.")
      ∷ (codes "março", codes "mar.")
      ∷ (codes "abril", codes "abr.")
      ∷ (codes "maio", codes "maio")
      ∷ (codes "junho", codes "jun.")
      ∷ (codes "julho", codes "jul.")
      ∷ (codes "agosto", codes "ago.")
      ∷ (codes "setembro", codes "set.")
      ∷ (codes "outubro", codes "out.")
      ∷ (codes "novembro", codes "nov.")
      ∷ (codes "dezembro", codes "dez.") ∷ [];
}

-- `nl-NL`
abbrev pub dutch_words : Words
dutch_words = record {
  between = codes "en";
  others = codes "e.a.";
  quotes = (codes "‘", codes "’");
  inner_quotes = (codes "“", codes "”");
  month_gender = None;
  months =
      (codes "januari", codes "jan.")
      ∷ (codes "februari", codes "feb.")
      ∷ (codes "maart", codes "mrt.")
      ∷ (codes "april", codes "apr.")
      ∷ (codes "mei", codes "mei")
      ∷ (codes "juni", codes "jun.")
      ∷ (codes "juli", codes "jul.")
      ∷ (codes "augustus", codes "aug.")
      ∷ (codes "september", codes "sep.")
      ∷ (codes "oktober", codes "okt.")
      ∷ (codes "november", codes "nov.")
      ∷ (codes "december", codes "dec.") ∷ [];
}

-- `pl-PL`
abbrev pub polish_words : Words
polish_words = record {
  between = codes "i";
  others = codes "i in.";
  quotes = (codes "„", codes "”");
  inner_quotes = (codes "«", codes "»");
  month_gender = None;
  months =
      (codes "styczeń", codes "sty.")
      ∷ (codes "luty", codes "luty")
      ∷ (codes "marzec", codes "mar.")
      ∷ (codes "kwiecień", codes "kwi.")
      ∷ (codes "maj", codes "maj")
      ∷ (codes "czerwiec", codes "cze.")
      ∷ (codes "lipiec", codes "lip.")
      ∷ (codes "sierpień", codes "sie.")
      ∷ (codes "wrzesień", codes "wrz.")
      ∷ (codes "październik", codes "paź.")
      ∷ (codes "listopad", codes "lis.")
      ∷ (codes "grudzień", codes "grudz.") ∷ [];
}

-- `ja-JP`
abbrev pub japanese_words : Words
japanese_words = record {
  between = codes "と";
  others = codes "ほか";
  quotes = (codes "「", codes "」");
  inner_quotes = (codes "『", codes "』");
  month_gender = None;
  months =
      (codes "1月", codes "1月")
      ∷ (codes "2月", codes "2月")
      ∷ (codes "3月", codes "3月")
      ∷ (codes "4月", codes "4月")
      ∷ (codes "5月", codes "5月")
      ∷ (codes "6月", codes "6月")
      ∷ (codes "7月", codes "7月")
      ∷ (codes "8月", codes "8月")
      ∷ (codes "9月", codes "9月")
      ∷ (codes "10月", codes "10月")
      ∷ (codes "11月", codes "11月")
      ∷ (codes "12月", codes "12月") ∷ [];
}

-- `zh-CN`
abbrev pub simplified_chinese_words : Words
simplified_chinese_words = record {
  between = codes "和";
  others = codes "等";
  quotes = (codes "《", codes "》");
  inner_quotes = (codes "〈", codes "〉");
  month_gender = None;
  months =
      (codes "一月", codes "1月")
      ∷ (codes "二月", codes "2月")
      ∷ (codes "三月", codes "3月")
      ∷ (codes "四月", codes "4月")
      ∷ (codes "五月", codes "5月")
      ∷ (codes "六月", codes "6月")
      ∷ (codes "七月", codes "7月")
      ∷ (codes "八月", codes "8月")
      ∷ (codes "九月", codes "9月")
      ∷ (codes "十月", codes "10月")
      ∷ (codes "十一月", codes "11月")
      ∷ (codes "十二月", codes "12月") ∷ [];
}
