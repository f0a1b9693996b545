-- A lookup depends only on the citation state and, unless the variable is the citation's, on the
-- entry's answer to it.
use Rattle.std.proofs.Common.{◌≡◌, refl, ap}
use Rattle.std.specs.Prelude.{option_map}
use Rattle.csl_common.specs.declared.form.LongShortForm.{LongShortForm}
use Rattle.csl_elements.specs.declared.taxonomy.NumberVariable.{NumberVariable}
use Rattle.csl_elements.specs.declared.taxonomy.NumberVariable.TheVariants.{CitationNumber, FirstReferenceNoteNumber, Locator}
use Rattle.csl_elements.specs.declared.taxonomy.PageVariable.{PageVariable}
use Rattle.csl_elements.specs.declared.taxonomy.NumberOrPageVariable.{NumberOrPageVariable}
use Rattle.csl_elements.specs.declared.taxonomy.NumberOrPageVariable.TheVariants as number_or_page
use Rattle.csl_elements.specs.declared.taxonomy.StandardVariable.{StandardVariable}
use Rattle.csl_elements.specs.declared.taxonomy.StandardVariable.TheVariants.{YearSuffix}
use Rattle.csl_elements.specs.declared.taxonomy.NameVariable.{NameVariable}
use Rattle.csl_elements.specs.declared.taxonomy.DateVariable.{DateVariable}
use Rattle.csl_entry.specs.Cite.{CiteState}
use Rattle.csl_entry.specs.Instance.{Instance, year_suffix, resolve_number, resolve_page, resolve_number_or_page, resolve_standard, resolve_names, resolve_date, SameNumber, SameStandard, SameNumberOrPage}
use Rattle.csl_entry.specs.NumberResult.{regular, number, page}

pub number_alike : (v : NumberVariable) (i j : Instance) → i.cite ≡ j.cite → SameNumber i j v → resolve_number i v ≡ resolve_number j v
number_alike CitationNumber i j cite h = ap (λ (c : CiteState). resolve_number (record i { cite = c }) CitationNumber) cite
number_alike FirstReferenceNoteNumber i j cite h = ap (λ (c : CiteState). resolve_number (record i { cite = c }) FirstReferenceNoteNumber) cite
number_alike Locator i j cite h = ap (λ (c : CiteState). resolve_number (record i { cite = c }) Locator) cite
number_alike other i j cite h = ap (option_map regular) (h refl)

pub page_alike : (v : PageVariable) (i j : Instance) → i.answers.pages v ≡ j.answers.pages v → resolve_page i v ≡ resolve_page j v
page_alike v i j h = h

pub number_or_page_alike : (v : NumberOrPageVariable) (i j : Instance) → i.cite ≡ j.cite → SameNumberOrPage i j v → resolve_number_or_page i v ≡ resolve_number_or_page j v
number_or_page_alike (number_or_page.Number v) i j cite h = ap (option_map number) (number_alike v i j cite h)
number_or_page_alike (number_or_page.Page v) i j cite h = ap (option_map page) h

pub standard_alike : (form : LongShortForm) (v : StandardVariable) (i j : Instance) → i.cite ≡ j.cite → SameStandard i j form v → resolve_standard i form v ≡ resolve_standard j form v
standard_alike form YearSuffix i j cite h = ap (λ (c : CiteState). year_suffix c.disambiguation) cite
standard_alike form other i j cite h = h refl

pub names_alike : (v : NameVariable) (i j : Instance) → i.answers.names v ≡ j.answers.names v → resolve_names i v ≡ resolve_names j v
names_alike v i j h = h

pub date_alike : (v : DateVariable) (i j : Instance) → i.answers.dates v ≡ j.answers.dates v → resolve_date i v ≡ resolve_date j v
date_alike v i j h = h
