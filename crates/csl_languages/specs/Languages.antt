-- What the locale of each language holds: the tables of its file in `src/words`, each row of which is
-- one of CSL's own locale (CSL 1.0.2, Locale), and its two options (Locale Options): whether a comma
-- or a period goes into a closing quote, and whether ordinal days are limited to the first.
use Rattle.std.specs.Prelude.{true, false}
use Rattle.csl_languages.specs.Contents.{Contents, contents_of}
use Rattle.csl_languages.specs.Words as words
use Rattle.csl_languages.specs.declared.language.Language.{Language}
use Rattle.csl_languages.specs.declared.language.Language.TheVariants as languages
use Rattle.csl_languages.specs.declared.words.english.TheConstants as english
use Rattle.csl_languages.specs.declared.words.british_english.TheConstants as british_english
use Rattle.csl_languages.specs.declared.words.german.TheConstants as german
use Rattle.csl_languages.specs.declared.words.french.TheConstants as french
use Rattle.csl_languages.specs.declared.words.spanish.TheConstants as spanish
use Rattle.csl_languages.specs.declared.words.italian.TheConstants as italian
use Rattle.csl_languages.specs.declared.words.brazilian_portuguese.TheConstants as brazilian_portuguese
use Rattle.csl_languages.specs.declared.words.dutch.TheConstants as dutch
use Rattle.csl_languages.specs.declared.words.polish.TheConstants as polish
use Rattle.csl_languages.specs.declared.words.japanese.TheConstants as japanese
use Rattle.csl_languages.specs.declared.words.simplified_chinese.TheConstants as simplified_chinese

abbrev pub english_contents : Contents
english_contents = contents_of english.WORDS english.TERMS english.GENDERED_TERMS english.ORDINALS english.NUMERIC_DATE english.TEXT_DATE true false

abbrev pub british_english_contents : Contents
british_english_contents = contents_of british_english.WORDS british_english.TERMS british_english.GENDERED_TERMS british_english.ORDINALS british_english.NUMERIC_DATE british_english.TEXT_DATE false false

abbrev pub german_contents : Contents
german_contents = contents_of german.WORDS german.TERMS german.GENDERED_TERMS german.ORDINALS german.NUMERIC_DATE german.TEXT_DATE false false

abbrev pub french_contents : Contents
french_contents = contents_of french.WORDS french.TERMS french.GENDERED_TERMS french.ORDINALS french.NUMERIC_DATE french.TEXT_DATE false true

abbrev pub spanish_contents : Contents
spanish_contents = contents_of spanish.WORDS spanish.TERMS spanish.GENDERED_TERMS spanish.ORDINALS spanish.NUMERIC_DATE spanish.TEXT_DATE false false

abbrev pub italian_contents : Contents
italian_contents = contents_of italian.WORDS italian.TERMS italian.GENDERED_TERMS italian.ORDINALS italian.NUMERIC_DATE italian.TEXT_DATE false false

abbrev pub brazilian_portuguese_contents : Contents
brazilian_portuguese_contents = contents_of brazilian_portuguese.WORDS brazilian_portuguese.TERMS brazilian_portuguese.GENDERED_TERMS brazilian_portuguese.ORDINALS brazilian_portuguese.NUMERIC_DATE brazilian_portuguese.TEXT_DATE false true

abbrev pub dutch_contents : Contents
dutch_contents = contents_of dutch.WORDS dutch.TERMS dutch.GENDERED_TERMS dutch.ORDINALS dutch.NUMERIC_DATE dutch.TEXT_DATE false false

abbrev pub polish_contents : Contents
polish_contents = contents_of polish.WORDS polish.TERMS polish.GENDERED_TERMS polish.ORDINALS polish.NUMERIC_DATE polish.TEXT_DATE false false

abbrev pub japanese_contents : Contents
japanese_contents = contents_of japanese.WORDS japanese.TERMS japanese.GENDERED_TERMS japanese.ORDINALS japanese.NUMERIC_DATE japanese.TEXT_DATE false false

abbrev pub simplified_chinese_contents : Contents
simplified_chinese_contents = contents_of simplified_chinese.WORDS simplified_chinese.TERMS simplified_chinese.GENDERED_TERMS simplified_chinese.ORDINALS simplified_chinese.NUMERIC_DATE simplified_chinese.TEXT_DATE false false

-- ---- by the language

abbrev pub contents : Language → Contents
contents languages.English = english_contents
contents languages.BritishEnglish = british_english_contents
contents languages.German = german_contents
contents languages.French = french_contents
contents languages.Spanish = spanish_contents
contents languages.Italian = italian_contents
contents languages.BrazilianPortuguese = brazilian_portuguese_contents
contents languages.Dutch = dutch_contents
contents languages.Polish = polish_contents
contents languages.Japanese = japanese_contents
contents languages.SimplifiedChinese = simplified_chinese_contents

-- the words that most styles print
abbrev pub first_words : Language → words.Words
first_words languages.English = words.english_words
first_words languages.BritishEnglish = words.british_english_words
first_words languages.German = words.german_words
first_words languages.French = words.french_words
first_words languages.Spanish = words.spanish_words
first_words languages.Italian = words.italian_words
first_words languages.BrazilianPortuguese = words.brazilian_portuguese_words
first_words languages.Dutch = words.dutch_words
first_words languages.Polish = words.polish_words
first_words languages.Japanese = words.japanese_words
first_words languages.SimplifiedChinese = words.simplified_chinese_words
