-- The text of a language is the language, then `-` and the region if there is one (CSL 1.0.2,
-- Appendix IV, `language`). An entry is English (Title Case Conversion) if its own language is
-- `en`, whatever the region. Without a language this is unknown.
use Rattle.std.specs.Prelude.{ℕ, Bool, List, [], ◌++◌, Option, Some, None, option_map, codes, bytes_eq}
use Rattle.lit_model.specs.declared.entry.Entry.{Entry, out-Entry}
use Rattle.lit_model.specs.Source.{Language, language_of}

-- a hyphen and the region, if there is one
abbrev pub region_text : Option (List ℕ) → List ℕ
region_text None = []
region_text (Some region) = codes "-" ++ region

-- the language, then `-` and the region if there is one
abbrev pub language_text : Language → List ℕ
language_text l = l.language ++ region_text l.region

-- whether the language is `en`, whatever the region
abbrev pub is_english_language : Language → Bool
is_english_language l = bytes_eq l.language (codes "en")

-- whether the entry's own language is English, if it is known
abbrev pub english_of : Entry → Option Bool
english_of e = option_map (λ l. is_english_language (language_of l)) (out-Entry e).language
