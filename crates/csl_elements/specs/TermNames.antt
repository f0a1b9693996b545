-- The names of terms (CSL 1.0.2, Appendix II: Terms). The term of a variable or of a locator has the
-- name of it; but the term of `editor-translator` is `editortranslator` (Names). Both spellings are
-- read. A month has a name from `month-01` to `month-12`, and a `Month` of a number above 11 none.
-- Some names are those of several terms, such as `page`, `volume` and `version`: first comes the
-- term of a variable, then that of a locator, then any other.
use Rattle.std.specs.Prelude.{ℕ, ◌≡◌, ◌≤◌, List, [], ◌∷◌, Option, Some, codes, slice_get, if◌then◌else◌}
use Rattle.std.specs.Str.{bytes_eq}
use Rattle.csl_common.specs.declared.season.Season.{Season}
use Rattle.csl_common.specs.declared.season.Season.TheVariants as seasons
use Rattle.csl_elements.specs.declared.taxonomy.NameVariable.{NameVariable}
use Rattle.csl_elements.specs.declared.term.OtherTerm.{OtherTerm}
use Rattle.csl_elements.specs.declared.term.OtherTerm.TheVariants as others
use Rattle.csl_elements.specs.declared.term.Term.{Term}
use Rattle.csl_elements.specs.declared.term.Term.TheVariants as terms
use Rattle.csl_elements.specs.VariableNames.{name_variable_name, number_name, page_name}
use Rattle.csl_elements.specs.LocatorNames.{locator_name}

-- the name of a term in the spelling of CSL's locales
abbrev pub term_spelling : List ℕ → List ℕ
term_spelling name = if bytes_eq name (codes "editor-translator") then codes "editortranslator" else name

-- the name of the term of a name variable
abbrev pub role_name : NameVariable → List ℕ
role_name variable = term_spelling (name_variable_name variable)

-- the names of the months, from January
abbrev pub months : List (List ℕ)
months =
    codes "month-01" ∷ codes "month-02" ∷ codes "month-03" ∷ codes "month-04" ∷
    codes "month-05" ∷ codes "month-06" ∷ codes "month-07" ∷ codes "month-08" ∷
    codes "month-09" ∷ codes "month-10" ∷ codes "month-11" ∷ codes "month-12" ∷ []

-- the name of a season
abbrev pub season_name : Season → List ℕ
season_name seasons.Spring = codes "season-01"
season_name seasons.Summer = codes "season-02"
season_name seasons.Autumn = codes "season-03"
season_name seasons.Winter = codes "season-04"

-- the name of a term that is of no variable and no locator
abbrev pub other_name : OtherTerm → Option (List ℕ)
other_name others.And = Some (codes "and")
other_name others.EtAl = Some (codes "et-al")
other_name others.Ad = Some (codes "ad")
other_name others.Bc = Some (codes "bc")
other_name others.PageRangeDelimiter = Some (codes "page-range-delimiter")
other_name others.OpenQuote = Some (codes "open-quote")
other_name others.CloseQuote = Some (codes "close-quote")
other_name others.OpenInnerQuote = Some (codes "open-inner-quote")
other_name others.CloseInnerQuote = Some (codes "close-inner-quote")
other_name others.Accessed = Some (codes "accessed")
other_name others.AndOthers = Some (codes "and others")
other_name others.Anonymous = Some (codes "anonymous")
other_name others.At = Some (codes "at")
other_name others.AvailableAt = Some (codes "available at")
other_name others.By = Some (codes "by")
other_name others.Circa = Some (codes "circa")
other_name others.Cited = Some (codes "cited")
other_name others.Forthcoming = Some (codes "forthcoming")
other_name others.From = Some (codes "from")
other_name others.Ibid = Some (codes "ibid")
other_name others.In = Some (codes "in")
other_name others.InPress = Some (codes "in press")
other_name others.Internet = Some (codes "internet")
other_name others.Interview = Some (codes "interview")
other_name others.Letter = Some (codes "letter")
other_name others.NoDate = Some (codes "no date")
other_name others.Online = Some (codes "online")
other_name others.PresentedAt = Some (codes "presented at")
other_name others.Reference = Some (codes "reference")
other_name others.Retrieved = Some (codes "retrieved")
other_name others.Scale = Some (codes "scale")
other_name others.Version = Some (codes "version")
other_name (others.Month month) = slice_get months month
other_name (others.Season season) = Some (season_name season)

-- the name of a term
abbrev pub term_name : Term → Option (List ℕ)
term_name (terms.Name variable) = Some (role_name variable)
term_name (terms.Number variable) = Some (number_name variable)
term_name (terms.Page variable) = Some (page_name variable)
term_name (terms.Locator locator) = Some (locator_name locator)
term_name (terms.Other term) = other_name term

-- the place of a term among those of its name
abbrev pub place : Term → ℕ
place (terms.Name variable) = 0
place (terms.Number variable) = 1
place (terms.Page variable) = 2
place (terms.Locator locator) = 3
place (terms.Other term) = 4

-- the first of the terms of a name
abbrev pub IsTermOf : List ℕ → Term → Type 0
IsTermOf name term = (term_name term ≡ Some name) × ((other : Term) → term_name other ≡ Some name → place term ≤ place other)
