-- The places of the terms of a style (CSL 1.0.2, Terms; Locale). The place of an entry is the index
-- of its locale in the style's list, with its index among the terms of that locale. At each term in
-- a form there is the place of the first entry over the locales in order, and nothing if no locale
-- has the term in that form. At each term there is its gender, if it has one. Only private
-- contracts cite this file.
use Rattle.std.specs.Prelude.{◌≡◌, Bool, ◌&&◌, List, map, Option, Some, option_map}
use Rattle.std.specs.Option.{option_and_then}
use Rattle.std.specs.List.{slice_get}
use Rattle.std.specs.HashMap.{HashMap, get}
use denote.Enum.Bare.{sameb}
use Rattle.csl_common.specs.declared.ordinal.GrammarGender.{GrammarGender}
use Rattle.csl_elements.specs.contracts.term.TermForm.{the_type}
use Rattle.csl_elements.specs.declared.locale.Locale.{Locale}
use Rattle.csl_elements.specs.declared.term.Term.{Term}
use Rattle.csl_elements.specs.declared.term.TermForm.{TermForm}
use Rattle.csl_elements.specs.Locale.{TermView, term_view, terms_of}
use Rattle.csl_elements.specs.Term.{same_term, in_form, term_gender}
use Rattle.csl_style.specs.declared.term_places.TermPlace.{TermPlace}
use Rattle.csl_style.specs.declared.term_places.TermPlaces.{TermPlaces}

-- the entry at a place
abbrev pub entry_at : List Locale → TermPlace → Option TermView
entry_at locales place = option_map term_view (option_and_then (λ (l : Locale). slice_get l.terms.items place.row) (slice_get locales place.locale))

-- the two are the same term in the same form by `==`
abbrev pub same_key : Term × TermForm → Term × TermForm → Bool
same_key x y = same_term x.0 y.0 && sameb the_type x.1 y.1

-- at each term in a form, the place of its first entry
abbrev pub AreFirstEntries : {S : Type 0} → HashMap (Term × TermForm) TermPlace S → List Locale → Type 0
AreFirstEntries entries locales = (term : Term) (form : TermForm)
    → option_map (entry_at locales) (get same_key entries (term, form)) ≡ option_map Some (in_form (map terms_of locales) term form)

-- at each term, its gender
abbrev pub AreGenders : {S : Type 0} → HashMap Term GrammarGender S → List Locale → Type 0
AreGenders genders locales = (term : Term) → get same_term genders term ≡ term_gender (map terms_of locales) term

abbrev pub ArePlacesOfTerms : TermPlaces → List Locale → Type 0
ArePlacesOfTerms places locales = AreFirstEntries places.entries locales × AreGenders places.genders locales
