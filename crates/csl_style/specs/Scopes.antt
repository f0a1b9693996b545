-- The settings of a scope. A names node inherits the scope's own options over those of the whole
-- style (CSL 1.0.2, Inheritable Name Options). The first locale decides whether punctuation goes
-- into quotes and whether only the first day of a month is an ordinal (Locale, style-options).
-- Without a locale both are false.
use Rattle.std.specs.Prelude.{Bool, false, List, [], ◌∷◌}
use Rattle.csl_elements.specs.declared.locale.Locale.{Locale}
use Rattle.csl_elements.specs.declared.names.options.InheritableNameOptions.{InheritableNameOptions}
use Rattle.csl_style.specs.declared.style.settings.Scope.{Scope}
use Rattle.csl_style.specs.declared.style.settings.Scope.TheVariants.{Citation, Bibliography}
use Rattle.csl_style.specs.declared.style.settings.StyleSettings.{StyleSettings}
use Rattle.csl_elements.specs.NamesOptions.{PartialOptions, partial_options, apply_options}

-- the options of names that the style sets for the citation, or for the bibliography
abbrev pub scope_names : Scope → StyleSettings → InheritableNameOptions
scope_names Citation s = s.citation_names
scope_names Bibliography s = s.bibliography_names

-- the options that each names node of the scope inherits: the scope's own over those of the whole
-- style
abbrev pub base_options : Scope → StyleSettings → PartialOptions
base_options scope s = apply_options (partial_options (scope_names scope s)) (partial_options s.names)

-- whether a comma or period after a closing quote goes before it: the first locale decides; false
-- without a locale
abbrev pub is_punctuation_in_quote : List Locale → Bool
is_punctuation_in_quote [] = false
is_punctuation_in_quote (l ∷ ls) = l.punctuation_in_quote

-- whether only the first day of a month is written as an ordinal: the first locale decides; false
-- without a locale
abbrev pub are_day_ordinals_limited : List Locale → Bool
are_day_ordinals_limited [] = false
are_day_ordinals_limited (l ∷ ls) = l.limit_day_ordinals_to_day_1
