-- Which styles with their options JSON objects are read as (CSL 1.0.2, Style Structure). Their
-- affixes have the marks of cases (Text-case). Works that do not say so themselves are English by the
-- first tag among the locales of the style, or without one.
use Rattle.std.specs.Prelude.{◌≡◌, ◌||◌, ℕ, Bool, true, false, List, [], ◌∷◌, Option, Some, None, option_map, codes}
use Rattle.std.specs.Option.{option_or}
use denote.Enum.Bare.{sameb}
use Rattle.serde_json.specs.Data.{Data}
use Rattle.serde_json.specs.Find.{as_str}
use Rattle.csl_languages.specs.Tag.{of_tag}
use Rattle.csl_languages.specs.contracts.language.Language.{the_type as the_language}
use Rattle.csl_languages.specs.declared.language.Language.{Language}
use Rattle.csl_languages.specs.declared.language.Language.TheVariants.{BritishEnglish, English}
use Rattle.csl_style.specs.Style.{StyleParts}
use Rattle.csl_list.specs.ListStyle.{bibliography_of, citation_of, english_of, style_of}
use Rattle.csl_list.specs.declared.list_style.ListStyle.{ListStyle}
use Rattle.csl_list.specs.declared.options.BibliographyOptions.{BibliographyOptions}
use Rattle.csl_wire.specs.Reading.{member, read_list}
use Rattle.csl_wire.specs.Styles.{IsStyle}
use Rattle.csl_wire_list.specs.BibliographyOptions.{AreBibliographyOptionsIf}
use Rattle.csl_wire_list.specs.CitationOptions.{read_class, AreCitationOptionsIf}

-- a member that has to be there, and is read as the style
pub record IsStyleIn (d : Data) (s : StyleParts) : Type 0 where
  pub own : Data
  pub is : member (codes "style") d ≡ Some own
  pub style_ : IsStyle true own s.settings s.macros s.citation s.bibliography

abbrev pub AreOwnOptions : Data → Option BibliographyOptions → Type 0
AreOwnOptions d None = ⊥
AreOwnOptions d (Some o) = AreBibliographyOptionsIf (member (codes "bibliography") d) o

abbrev pub first_tag : List Data → Option (List ℕ)
first_tag [] = None
first_tag (d ∷ ds) = option_or (as_str d) (first_tag ds)

abbrev is_english_language : Option Language → Bool
is_english_language None = false
is_english_language (Some l) = sameb the_language l English || sameb the_language l BritishEnglish

abbrev pub is_english_tag : List ℕ → Bool
is_english_tag tag = is_english_language (of_tag tag)

abbrev english_by : Option (List ℕ) → Bool
english_by None = true
english_by (Some tag) = is_english_tag tag

abbrev english_of_style : Option Data → Option Bool
english_of_style None = Some true
english_of_style (Some style) = option_map (λ locales. english_by (first_tag locales)) (read_list (codes "locales") style)

abbrev pub read_english : Data → Option Bool
read_english d = english_of_style (member (codes "style") d)

pub record IsListStyle (d : Data) (list : ListStyle) : Type 0 where
  pub style_ : IsStyleIn d (style_of list)
  pub citation_ : AreCitationOptionsIf (member (codes "citation") d) (citation_of list)
  pub class_ : read_class d ≡ Some (citation_of list).begins_with_capital
  pub bibliography_ : AreOwnOptions d (bibliography_of list)
  pub english_ : read_english d ≡ Some (english_of list)
