-- A style with its options for a document. Each key by a macro calls one that the style has. Else it
-- is refused at the first key that does not, and those of the citation come first.
use Rattle.std.specs.Prelude.{◌≡◌, ◌<◌, ◌⊎◌, ⊤, ℕ, Bool, true, false, List, [], length, Option, Some, None, is_none, string_bytes}
use Rattle.std.specs.List.{All, AllWithin, HoldsAt}
use Rattle.csl_elements.specs.View.{Definition}
use Rattle.csl_style.specs.AllWithin.{IsAllWithin, IsLayoutWithin}
use Rattle.csl_style.specs.Expansion.{macro_body}
use Rattle.csl_style.specs.Style.{StyleParts}
use Rattle.csl_style.specs.declared.style.settings.Scope.{Scope}
use Rattle.csl_style.specs.declared.style.settings.Scope.TheVariants as scopes
use Rattle.csl_elements.specs.View.{view_layout}
use Rattle.csl_list.specs.declared.list_style.KeyLayout.{KeyLayout}
use Rattle.csl_list.specs.declared.list_style.ListStyle.{ListStyle}
use Rattle.csl_list.specs.declared.options.BibliographyOptions.{BibliographyOptions}
use Rattle.csl_list.specs.declared.options.CitationOptions.{CitationOptions}
use Rattle.csl_list.specs.declared.options.KeySource.{KeySource}
use Rattle.csl_list.specs.declared.options.KeySource.TheVariants.{Macro, Variable}
use Rattle.csl_list.specs.declared.options.SortKey.{SortKey}
use Rattle.csl_list.specs.declared.style_error.ListStyleError.{ListStyleError}
use Rattle.csl_list.specs.declared.style_error.ListStyleError.TheVariants.{Memory, NoSuchMacro}

abbrev pub is_unknown_source : List Definition → KeySource → Bool
is_unknown_source macros (Macro name) = is_none (macro_body (string_bytes name) macros)
is_unknown_source macros (Variable variable) = false

-- the key is by a macro that the style lacks
abbrev pub is_unknown : List Definition → SortKey → Bool
is_unknown macros key = is_unknown_source macros key.source

abbrev pub IsKnown : List Definition → SortKey → Type 0
IsKnown macros key = is_unknown macros key ≡ false

abbrev pub IsFirstUnknown : List Definition → List SortKey → ℕ → Type 0
IsFirstUnknown macros keys place = (place < length keys) × AllWithin (IsKnown macros) keys 0 place × HoldsAt (λ key. is_unknown macros key ≡ true) keys place

abbrev pub IsUnknownPlace : List Definition → List SortKey → Option ℕ → Type 0
IsUnknownPlace macros keys None = All (IsKnown macros) keys
IsUnknownPlace macros keys (Some place) = IsFirstUnknown macros keys place

-- an error of the keys of this scope
abbrev pub IsRefusalOf : List Definition → Scope → List SortKey → ListStyleError → Type 0
IsRefusalOf macros scope keys Memory = ⊤
IsRefusalOf macros scope keys (NoSuchMacro of place) = (of ≡ scope) × IsFirstUnknown macros keys place

abbrev pub keys_of : Option BibliographyOptions → List SortKey
keys_of None = []
keys_of (Some options) = options.keys.items

abbrev pub IsRefusal : List Definition → List SortKey → List SortKey → ListStyleError → Type 0
IsRefusal macros citation bibliography error =
    IsRefusalOf macros scopes.Citation citation error
    ⊎ (All (IsKnown macros) citation × IsRefusalOf macros scopes.Bibliography bibliography error)

-- each layout of a key is within the limits
abbrev pub AreKeysWithin : StyleParts → ℕ → ℕ → ℕ → List KeyLayout → Type 0
AreKeysWithin style rendered size depth keys = All (λ key. IsLayoutWithin style rendered size depth (view_layout key.layout)) keys

abbrev pub style_of : ListStyle → StyleParts
style_of list = list.style

-- whether works are English that do not say so themselves
abbrev pub english_of : ListStyle → Bool
english_of list = list.is_english

abbrev pub citation_of : ListStyle → CitationOptions
citation_of list = list.citation

abbrev pub bibliography_of : ListStyle → Option BibliographyOptions
bibliography_of list = list.bibliography

-- the layouts of the keys
abbrev pub citation_keys : ListStyle → List KeyLayout
citation_keys list = list.citation_keys.items

abbrev pub bibliography_keys : ListStyle → List KeyLayout
bibliography_keys list = list.bibliography_keys.items

-- each layout that a list renders is within the limits
abbrev pub IsWithin : ListStyle → ℕ → ℕ → ℕ → Type 0
IsWithin list rendered size depth =
    IsAllWithin (style_of list) rendered size depth
    × AreKeysWithin (style_of list) rendered size depth (citation_keys list)
    × AreKeysWithin (style_of list) rendered size depth (bibliography_keys list)
