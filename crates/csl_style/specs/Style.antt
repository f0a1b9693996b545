-- A style (CSL 1.0.2, Style Structure) has settings, macros, a layout for citations, perhaps one
-- for the bibliography, and locales. It is refused for the first macro of its list that leads back
-- to itself. If there is none, it is refused for a Chicago page format (`IsRefusal`). A `Memory`
-- error may come instead of either. A macro that an earlier one of the same name hides does not
-- count (CSL 1.0.2, Macro).
use Rattle.std.specs.Prelude.{◌≡◌, ℕ, ◌++◌, Bool, true, false, List, Option, Some, None, ⊤, string_bytes, codes, ◌<◌}
use Rattle.csl_elements.specs.declared.element.CslMacro.{CslMacro}
use Rattle.csl_elements.specs.declared.element.Layout.{Layout}
use Rattle.csl_elements.specs.declared.locale.Locale.{Locale}
use Rattle.csl_style.specs.declared.style.settings.PageRangeFormat.{PageRangeFormat}
use Rattle.csl_style.specs.declared.style.settings.PageRangeFormat.TheVariants.{Expanded, Minimal, MinimalTwo, Chicago15, Chicago16}
use Rattle.csl_style.specs.declared.style.settings.Scope.{Scope}
use Rattle.csl_style.specs.declared.style.settings.Scope.TheVariants.{Citation, Bibliography}
use Rattle.csl_style.specs.declared.style.settings.StyleSettings.{StyleSettings}
use Rattle.csl_style.specs.declared.style.settings.DemoteNonDroppingParticle.TheVariants.{DisplayAndSort}
use Rattle.csl_style.specs.declared.style.error.StyleError.{StyleError}
use Rattle.csl_style.specs.declared.style.error.StyleError.TheVariants.{Memory, CyclicMacro, ChicagoPageFormat}
pub use Rattle.csl_elements.specs.NamesOptions.{partial_options, no_options}
use Rattle.csl_elements.specs.View.{Definition}
use Rattle.csl_style.specs.Expansion.{macro_index}
use Rattle.csl_style.specs.MacroCalls.{LeadsTo}

-- The macro of the name leads back to itself, and no earlier macro of the list does. A hidden macro
-- has no place here.
pub record IsFirstCyclic (ds : List Definition) (name : List ℕ) : Type 0 where
  pub index : ℕ
  pub here : macro_index name ds ≡ Some index
  pub returns : LeadsTo ds name name
  pub earlier : (other : List ℕ) (k : ℕ) → macro_index other ds ≡ Some k → k < index → LeadsTo ds other other → ⊥

-- no macro leads back to itself
abbrev pub HasNoCycle : List Definition → Type 0
HasNoCycle ds = (name : List ℕ) → LeadsTo ds name name → ⊥

pub record StyleParts : Type 0 where
  pub settings : StyleSettings
  pub macros : List CslMacro
  pub citation : Layout
  pub bibliography : Option Layout
  pub locales : List Locale

abbrev pub style_of : StyleSettings → List CslMacro → Layout → Option Layout → List Locale → StyleParts
style_of settings macros citation bibliography locales = record {
  settings = settings;
  macros = macros;
  citation = citation;
  bibliography = bibliography;
  locales = locales;
}

-- the layout of a scope, if the style has one
abbrev pub layout_of : StyleParts → Scope → Option Layout
layout_of style Citation = Some style.citation
layout_of style Bibliography = style.bibliography

-- the page formats that are not supported
abbrev is_chicago_format : PageRangeFormat → Bool
is_chicago_format Expanded = false
is_chicago_format Minimal = false
is_chicago_format MinimalTwo = false
is_chicago_format Chicago15 = true
is_chicago_format Chicago16 = true

abbrev pub is_chicago : Option PageRangeFormat → Bool
is_chicago None = false
is_chicago (Some format) = is_chicago_format format

-- A style is refused for the first macro that leads back to itself. If there is none, it is refused
-- for a Chicago page format. A `Memory` error may come instead of either.
abbrev pub IsRefusal : Option PageRangeFormat → List Definition → StyleError → Type 0
IsRefusal format ds Memory = ⊤
IsRefusal format ds (CyclicMacro name) = IsFirstCyclic ds (string_bytes name)
IsRefusal format ds ChicagoPageFormat = HasNoCycle ds × (is_chicago format ≡ true)

-- the message of a refusal
abbrev pub refusal_text : StyleError → List ℕ
refusal_text Memory = codes "out of memory"
refusal_text (CyclicMacro name) = codes "the macro '" ++ (string_bytes name ++ codes "' leads back to itself")
refusal_text ChicagoPageFormat = codes "Chicago page formats are not supported"

-- the settings of a style that sets nothing
pub record AreDefaults (s : StyleSettings) : Type 0 where
  pub page_range_format : s.page_range_format ≡ None
  pub demote : s.demote_non_dropping_particle ≡ DisplayAndSort
  pub hyphen : s.initialize_with_hyphen ≡ true
  pub names : partial_options s.names ≡ no_options
  pub citation_names : partial_options s.citation_names ≡ no_options
  pub bibliography_names : partial_options s.bibliography_names ≡ no_options
