-- The tags of languages (CSL 1.0.2, Locale; BCP 47): a language and a region, as `en-US`.
-- - Letters count in either case, and `_` as `-`.
-- - A language alone is the tag of its first region here: `pt` of `pt-BR`, and `en` of `en-US`.
-- - Any other text is the tag of none: the empty one, and that of another region, `es-MX`.
use Rattle.std.specs.Prelude.{ℕ, Bool, cond, nat_eq, ◌||◌, List, [], ◌∷◌, map, find, Option, codes, bytes_eq}
use Rattle.std.specs.Char.{to_ascii_lowercase}
use Rattle.csl_languages.specs.declared.language.Language.{Language}
use Rattle.csl_languages.specs.declared.language.Language.TheVariants.{English, BritishEnglish, German, French, Spanish, Italian, BrazilianPortuguese, Dutch, Polish, Japanese, SimplifiedChinese}

-- in the order in which a tag finds them
abbrev pub languages : List Language
languages = English ∷ BritishEnglish ∷ German ∷ French ∷ Spanish ∷ Italian ∷ BrazilianPortuguese ∷ Dutch ∷ Polish ∷ Japanese ∷ SimplifiedChinese ∷ []

abbrev pub tag : Language → List ℕ
tag English = codes "en-US"
tag BritishEnglish = codes "en-GB"
tag German = codes "de-DE"
tag French = codes "fr-FR"
tag Spanish = codes "es-ES"
tag Italian = codes "it-IT"
tag BrazilianPortuguese = codes "pt-BR"
tag Dutch = codes "nl-NL"
tag Polish = codes "pl-PL"
tag Japanese = codes "ja-JP"
tag SimplifiedChinese = codes "zh-CN"

-- the language alone
abbrev pub primary : Language → List ℕ
primary English = codes "en"
primary BritishEnglish = codes "en"
primary German = codes "de"
primary French = codes "fr"
primary Spanish = codes "es"
primary Italian = codes "it"
primary BrazilianPortuguese = codes "pt"
primary Dutch = codes "nl"
primary Polish = codes "pl"
primary Japanese = codes "ja"
primary SimplifiedChinese = codes "zh"

-- in small letters, and `_` (95) as `-` (45)
abbrev pub folded_byte : ℕ → ℕ
folded_byte byte = cond (nat_eq byte 95) 45 (to_ascii_lowercase byte)

abbrev pub folded : List ℕ → List ℕ
folded text = map folded_byte text

-- whether a text is the language's tag, or the language alone
abbrev pub is_named : List ℕ → Language → Bool
is_named text language = bytes_eq (folded text) (folded (tag language)) || bytes_eq (folded text) (folded (primary language))

-- the first language that a text names
abbrev pub of_tag : List ℕ → Option Language
of_tag text = find (is_named text) languages
